use Rattle.std.proofs.Common.{refl}
use Rattle.tp_cli_audit.proofs.RunResumeLemmas.{none_early}
use Rattle.tp_cli_audit.proofs.run_resume.run_named.Goals as goal

pub returns-in-Ok-clause-said : goal.returns-in-Ok-clause-said
returns-in-Ok-clause-said g c = c.run_of.ensures.said (g.N.Files.held c.args.files.now) c.in-Ok.ensures.named

pub returns-in-Err-clause-cause : goal.returns-in-Err-clause-cause
returns-in-Err-clause-cause g c = (none_early (g.O.Sink.held c.args.output.now), (refl, refl))
