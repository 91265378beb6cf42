use Rattle.std.proofs.Common.{◌∙◌, ℕ, ap}
use Rattle.tp_cli_files.specs.Causes.{counted}
use Rattle.tp_cli_audit.specs.AuditStops.{plan_stop_unread}
use Rattle.std.proofs.lemmas.Result.{IfErr-weaker, IfOk-weaker}
use Rattle.tp_cli_audit.proofs.PlanAuditLemmas.{none_before, says_opened, stops_opened}
use Rattle.tp_cli_audit.proofs.run.audit_opened.Goals as goal

pub returns-in-Ok-clause-said : goal.returns-in-Ok-clause-said
returns-in-Ok-clause-said g c =
    IfOk-weaker c.audit_words-audited.result _ _ (λ b h. says_opened (g.N.Files.held c.open.new.self) (g.N.Files.held c.args.files.now) c.args.words c.args.head.now _ _ _ _ b c.open.ensures.same c.in-Ok.ensures.bytes h) c.audit_words-audited.ensures.said

pub returns-in-Ok-clause-cause : goal.returns-in-Ok-clause-cause
returns-in-Ok-clause-cause g c =
    IfErr-weaker c.audit_words-audited.result _ _ (λ stop h. stops_opened (g.N.Files.held c.open.new.self) (g.N.Files.held c.args.files.now) c.args.words c.args.head.now _ _ _ _ stop c.open.ensures.same c.in-Ok.ensures.bytes h) c.audit_words-audited.ensures.cause

pub returns-in-Ok-clause-opened : goal.returns-in-Ok-clause-opened
returns-in-Ok-clause-opened g c =
    c.close.ensures.cause ∙ (c.audit_words-audited.ensures.opened ∙ ap (λ (n : ℕ). counted plan_stop_unread n c.audit_words-audited.result) (none_before _ _ _ c.in-Ok.ensures.cause c.in-Ok.ensures.new))
