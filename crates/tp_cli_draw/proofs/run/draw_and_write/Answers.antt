use Rattle.std.proofs.lemmas.Result.{IfErr-weaker, IfOk-weaker}
use Rattle.tp_cli_draw.proofs.DrawLemmas.{counts, stops, stops_writing}
use Rattle.tp_cli_draw.proofs.run.draw_and_write.Goals as goal

pub returns-in-Ok-clause-written : goal.returns-in-Ok-clause-written
returns-in-Ok-clause-written g c =
    IfOk-weaker c.write_drawn.result _ _ (λ yes h. (c.in-Ok.drawn, c.in-Ok.ensures.drawn, h.0, h.1)) c.write_drawn.ensures.written

pub returns-in-Ok-clause-cause : goal.returns-in-Ok-clause-cause
returns-in-Ok-clause-cause g c =
    IfErr-weaker c.write_drawn.result _ _ (λ stop h. stops_writing (g.N.Files.held c.args.files.now) c.args.words _ _ c.in-Ok.drawn stop c.in-Ok.ensures.drawn h) c.write_drawn.ensures.part

pub returns-in-Err-clause-cause : goal.returns-in-Err-clause-cause
returns-in-Err-clause-cause g c = stops (g.N.Files.held c.args.files.now) c.args.words _ c.in-Err.stop c.in-Err.ensures.cause

pub returns-in-Err-clause-failures : goal.returns-in-Err-clause-failures
returns-in-Err-clause-failures g c = counts (g.N.Files.held c.args.files.now) c.args.words _ c.in-Err.stop c.in-Err.ensures.cause
