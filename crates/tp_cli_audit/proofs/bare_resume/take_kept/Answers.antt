use Rattle.std.proofs.Common.{subst}
use Rattle.std.specs.Prelude.{Some, Err}
use Rattle.std.proofs.lemmas.Result.{IfErr-weaker, IfOk-weaker}
use Rattle.tp_journal.specs.Telling.{IsHeadTold}
use Rattle.tp_cli_audit.specs.Audits.{HindersHead}
use Rattle.tp_cli_audit.proofs.AuditLemmas.{bare_hinders, head_hinders}
use Rattle.tp_cli_audit.specs.AuditLines.{stop_unread}
use Rattle.tp_cli_audit.proofs.ResumeLemmas.{counted_none}
use Rattle.tp_cli_audit.proofs.bare_resume.take_kept.Goals as goal

pub returns-in-Ok-clause-taken : goal.returns-in-Ok-clause-taken
returns-in-Ok-clause-taken c =
    IfOk-weaker c.take_headed.result _ _ (λ t h. (c.in-Ok.head, h)) c.take_headed.ensures.taken

pub returns-in-Ok-clause-cause : goal.returns-in-Ok-clause-cause
returns-in-Ok-clause-cause c =
    IfErr-weaker c.take_headed.result _ _ (λ stop h. bare_hinders stop c.in-Ok.head (Some c.args.kept.items) (subst (λ bytes. IsHeadTold bytes c.in-Ok.head) c.as_slice.ensures.value c.in-Ok.ensures.head) h) c.take_headed.ensures.cause

pub returns-in-Err-clause-cause : goal.returns-in-Err-clause-cause
returns-in-Err-clause-cause c =
    head_hinders c.in-Err.stop (Some c.args.kept.items) (subst (λ bytes. HindersHead (Some bytes) c.in-Err.stop) c.as_slice.ensures.value c.in-Err.ensures.cause)

pub returns-in-Err-clause-opened : goal.returns-in-Err-clause-opened
returns-in-Err-clause-opened c = λ n. counted_none {T = Unit {0}} stop_unread (Err c.in-Err.stop) n c.in-Err.ensures.opened
