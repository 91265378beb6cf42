use Rattle.std.proofs.Common.{refl}
use Rattle.std.proofs.lemmas.Result.{IfErr-weaker, IfOk-weaker}
use Rattle.tp_cli_inputs.proofs.NamedLemmas.{unjudged}
use Rattle.tp_cli_audit.proofs.PlanAuditLemmas.{says_headed, stops_named}
use Rattle.tp_cli_audit.proofs.run.audit_task.Goals as goal

pub returns-in-Ok-clause-said : goal.returns-in-Ok-clause-said
returns-in-Ok-clause-said g c =
    λ held named.
    IfOk-weaker c.audit_verdict.result _ _ (λ b h. says_headed held c.args.words c.args.task.now c.in-Ok.verdict c.args.head.now _ _ _ b (c.args.plan, named, c.in-Ok.ensures.verdict) h) c.audit_verdict.ensures.said

pub returns-in-Ok-clause-cause : goal.returns-in-Ok-clause-cause
returns-in-Ok-clause-cause g c =
    λ held named.
    IfErr-weaker c.audit_verdict.result _ _ (λ stop h. stops_named held c.args.words c.args.task.now c.in-Ok.verdict c.args.head.now _ _ _ stop (c.args.plan, named, c.in-Ok.ensures.verdict) h) c.audit_verdict.ensures.cause

pub returns-in-Err-clause-cause : goal.returns-in-Err-clause-cause
returns-in-Err-clause-cause g c = λ held named. (unjudged held c.args.words c.args.task.now c.args.plan c.in-Err.fault named c.in-Err.ensures.cause, refl)
