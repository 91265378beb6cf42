use Rattle.std.proofs.Common.{◌∙◌}
use Rattle.tp_cli_audit.proofs.RunResumeLemmas.{ends, ends_heard, ends_told, ends_within}
use Rattle.tp_cli_audit.proofs.run_resume.run_run_resume.Goals as goal

pub returns-in-Ok-true-clause-resumed : goal.returns-in-Ok-true-clause-resumed
returns-in-Ok-true-clause-resumed g c = λ zero. rw c.in-Ok-true.field-0-test at c.in-Ok-true.ensures.said

pub returns-in-Err-clause-stopped : goal.returns-in-Err-clause-stopped
returns-in-Err-clause-stopped g c =
    λ two.
    ends c.args.words c.args.old.now _ _ _ _ _ _ _ _ _ _ _ _ _ _ _ _ c.in-Err.stop _ c.in-Err.ensures.cause (c.complain.ensures.status ∙ c.run_resume_line.ensures.status) c.in-Err.ensures.failures c.in-Err.ensures.read c.in-Err.ensures.opened c.in-Err.ensures.log c.run_resume_line.ensures.text c.complain.ensures.told

pub returns-in-Err-clause-part : goal.returns-in-Err-clause-part
returns-in-Err-clause-part g c = λ broken. c.in-Err.ensures.cause.0

pub returns-in-Err-clause-told : goal.returns-in-Err-clause-told
returns-in-Err-clause-told g c = λ no. ends_told _ _ _ c.in-Err.stop (c.complain.ensures.status ∙ c.run_resume_line.ensures.status) c.in-Err.ensures.failures no

pub returns-in-Err-clause-heard : goal.returns-in-Err-clause-heard
returns-in-Err-clause-heard g c = λ no. ends_heard _ _ _ c.in-Err.stop (c.complain.ensures.status ∙ c.run_resume_line.ensures.status) c.in-Err.ensures.read no

pub returns-in-Err-clause-within : goal.returns-in-Err-clause-within
returns-in-Err-clause-within g c = (ends_within _ c.in-Err.stop (c.complain.ensures.status ∙ c.run_resume_line.ensures.status)).1
