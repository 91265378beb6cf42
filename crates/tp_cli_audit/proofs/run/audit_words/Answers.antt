use Rattle.std.proofs.Common.{◌∙◌, ◌+◌, ℕ, ap, refl}
use Rattle.tp_cli_files.proofs.CauseLemmas.{counted_behind, raised_by}
use Rattle.tp_cli_inputs.specs.JudgeLines.{judge_unread}
use Rattle.tp_cli_audit.specs.AuditStops.{plan_stop_unread}
use Rattle.tp_cli_audit.proofs.run.audit_words.Goals as goal

pub returns-in-Ok-clause-said : goal.returns-in-Ok-clause-said
returns-in-Ok-clause-said g c = c.audit_task.ensures.said (g.N.Files.held c.args.files.now) c.in-Ok.ensures.named

pub returns-in-Ok-clause-cause : goal.returns-in-Ok-clause-cause
returns-in-Ok-clause-cause g c = c.audit_task.ensures.cause (g.N.Files.held c.args.files.now) c.in-Ok.ensures.named

pub returns-in-Err-clause-cause : goal.returns-in-Err-clause-cause
returns-in-Err-clause-cause g c = (c.in-Err.ensures.cause, refl)

pub returns-in-Ok-clause-opened : goal.returns-in-Ok-clause-opened
returns-in-Ok-clause-opened g c =
    let files = g.N.Files.failures c.args.files.now in
    let source = g.S.Source.failures c.args.source.now in
    ap (λ (n : ℕ). n + g.S.Source.failures c.audit_task.new.source) c.in-Ok.ensures.opened ∙ (ap (λ (m : ℕ). files + m) c.audit_task.ensures.opened ∙ counted_behind plan_stop_unread files source c.audit_task.result)

pub returns-in-Err-clause-opened : goal.returns-in-Err-clause-opened
returns-in-Err-clause-opened g c =
    let files = g.N.Files.failures c.args.files.now in
    let source = g.S.Source.failures c.args.source.now in
    ap (λ (n : ℕ). n + source) c.in-Err.ensures.opened ∙ raised_by (judge_unread c.in-Err.fault) files source
