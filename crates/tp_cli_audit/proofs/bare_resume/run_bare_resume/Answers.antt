use Rattle.std.proofs.Common.{◌∙◌}
use Rattle.tp_cli_audit.proofs.BareResumeLemmas.{ends, ends_heard, ends_told, ends_within, part_then}
use Rattle.tp_cli_audit.proofs.bare_resume.run_bare_resume.Goals as goal

pub returns-in-Err-clause-stopped : goal.returns-in-Err-clause-stopped
returns-in-Err-clause-stopped g c =
    λ two.
    ends (g.N.Files.held c.args.files.now c.args.old.now) c.args.old.now _ _ _ _ _ _ _ _ _ _ _ _ _ _ _ _ _ c.in-Err.stop _ c.in-Err.ensures.cause (c.complain.ensures.status ∙ c.resume_line.ensures.status) c.in-Err.ensures.told c.in-Err.ensures.read c.in-Err.ensures.opened c.in-Err.ensures.log c.resume_line.ensures.text c.complain.ensures.told

pub returns-in-Err-clause-part : goal.returns-in-Err-clause-part
returns-in-Err-clause-part g c = λ broken. part_then (g.N.Files.held c.args.files.now c.args.old.now) _ _ _ _ c.in-Err.stop c.in-Err.ensures.cause

pub returns-in-Err-clause-told : goal.returns-in-Err-clause-told
returns-in-Err-clause-told g c = λ no. ends_told _ _ _ c.in-Err.stop (c.complain.ensures.status ∙ c.resume_line.ensures.status) c.in-Err.ensures.told no

pub returns-in-Err-clause-heard : goal.returns-in-Err-clause-heard
returns-in-Err-clause-heard g c = λ no. ends_heard _ _ _ c.in-Err.stop (c.complain.ensures.status ∙ c.resume_line.ensures.status) c.in-Err.ensures.read no

pub returns-in-Err-clause-within : goal.returns-in-Err-clause-within
returns-in-Err-clause-within g c = (ends_within _ c.in-Err.stop (c.complain.ensures.status ∙ c.resume_line.ensures.status)).1
