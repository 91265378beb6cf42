use Rattle.std.proofs.Common.{inl, refl, sym}
use Rattle.std.specs.Prelude.{Err}
use Rattle.tp_cli_audit.specs.AuditLines.{stop_unread}
use Rattle.tp_cli_audit.proofs.ResumeLemmas.{counted_none}
use Rattle.tp_cli_audit.proofs.RunResumeLemmas.{none_early, quiet_count, quiet_head}
use Rattle.tp_cli_audit.proofs.run_resume.run_kept.Goals as goal

pub returns-in-Err-clause-cause : goal.returns-in-Err-clause-cause
returns-in-Err-clause-cause g c = (none_early (g.O.Sink.held c.args.output.now), (refl, inl refl))

pub returns-in-Err-clause-failures : goal.returns-in-Err-clause-failures
returns-in-Err-clause-failures g c = quiet_count c.in-Err.stop _ (quiet_head _ c.in-Err.stop c.in-Err.ensures.cause)

pub returns-in-Err-clause-opened : goal.returns-in-Err-clause-opened
returns-in-Err-clause-opened g c = sym (counted_none {T = Unit {0}} stop_unread (Err c.in-Err.stop) _ c.in-Err.ensures.opened)
