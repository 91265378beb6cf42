use Rattle.tp_cli_draw.proofs.DrawLemmas.{head_stops}
use Rattle.tp_cli_draw.proofs.run.draw_run.Goals as goal

pub returns-in-Ok-clause-drawn : goal.returns-in-Ok-clause-drawn
returns-in-Ok-clause-drawn g c = c.draw_headed.ensures.drawn (g.N.Files.held c.args.files.now) c.head_in.ensures.same c.in-Ok.ensures.head

pub returns-in-Ok-clause-cause : goal.returns-in-Ok-clause-cause
returns-in-Ok-clause-cause g c = c.draw_headed.ensures.cause (g.N.Files.held c.args.files.now) c.head_in.ensures.same c.in-Ok.ensures.head

pub returns-in-Err-clause-cause : goal.returns-in-Err-clause-cause
returns-in-Err-clause-cause g c = head_stops (g.N.Files.held c.args.files.now) c.args.words c.args.log.now c.in-Err.stop c.requires c.in-Err.ensures.cause
