use Rattle.std.proofs.Common.{◌∙◌, sym}
use Rattle.tp_cli_audit.proofs.AuditLemmas.{ends, kept, part, told, within}
use Rattle.tp_cli_audit.proofs.bare.run_bare_audit.Goals as goal

pub returns-in-Err-clause-stopped : goal.returns-in-Err-clause-stopped
returns-in-Err-clause-stopped g c =
    λ two.
    ends c.in-Err.stop _ _ _ _ _ _ _ _ _ _ _ _ _ _ _ c.in-Err.ensures.cause c.complain.ensures.status c.audit_stop_line.ensures.status c.audit_stop_line.ensures.text c.in-Err.ensures.failures c.in-Err.ensures.opened c.complain.ensures.told

pub returns-in-Err-clause-kept : goal.returns-in-Err-clause-kept
returns-in-Err-clause-kept g c =
    λ two. kept c.in-Err.stop _ _ _ c.in-Err.ensures.cause (sym (c.complain.ensures.status ∙ c.audit_stop_line.ensures.status) ∙ two)

pub returns-in-Err-clause-part : goal.returns-in-Err-clause-part
returns-in-Err-clause-part g c = λ broken. part c.in-Err.stop _ _ _ c.in-Err.ensures.cause

pub returns-in-Err-clause-told : goal.returns-in-Err-clause-told
returns-in-Err-clause-told g c =
    λ other. told c.in-Err.stop _ _ (λ is. other (c.complain.ensures.status ∙ (c.audit_stop_line.ensures.status ∙ is))) c.in-Err.ensures.failures

pub returns-in-Err-clause-within : goal.returns-in-Err-clause-within
returns-in-Err-clause-within g c = (within c.in-Err.stop _ (c.complain.ensures.status ∙ c.audit_stop_line.ensures.status)).1
