use Rattle.std.specs.Prelude.{Err}
use Rattle.tp_cli_audit.specs.AuditLines.{stop_unread}
use Rattle.tp_cli_audit.proofs.ResumeLemmas.{counted_none}
use Rattle.tp_cli_audit.proofs.old.take_up.Goals as goal

pub returns-in-Err-clause-opened : goal.returns-in-Err-clause-opened
returns-in-Err-clause-opened c = λ n. counted_none {T = Unit {0}} stop_unread (Err c.in-Err.stop) n c.in-Err.ensures.opened
