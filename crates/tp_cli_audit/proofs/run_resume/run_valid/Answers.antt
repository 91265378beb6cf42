use Rattle.std.proofs.Common.{refl}
use Rattle.tp_cli_audit.proofs.RunResumeLemmas.{none_early}
use Rattle.tp_cli_audit.proofs.run_resume.run_valid.Goals as goal

pub returns-in-Err-clause-cause : goal.returns-in-Err-clause-cause
returns-in-Err-clause-cause g c = (none_early (g.O.Sink.held c.args.output.now), (refl, refl))
