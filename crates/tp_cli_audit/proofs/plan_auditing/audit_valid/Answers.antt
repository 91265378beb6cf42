use Rattle.std.proofs.Common.{subst}
use Rattle.tp_deorder.specs.Answers.{IsPlanNetOf}
use Rattle.tp_cli_audit.proofs.PlanAuditLemmas.{opened_as, said_steps, stopped_steps, told_count}
use Rattle.tp_cli_audit.proofs.plan_auditing.audit_valid.Goals as goal

pub returns-in-Ok-clause-said : goal.returns-in-Ok-clause-said
returns-in-Ok-clause-said g c =
    said_steps c.args.plan.now.task c.args.plan.now.steps c.args.horizon c.args.head.now _ _ _ c.in-Ok.network
    (subst (λ l. IsPlanNetOf c.args.plan.now.task c.args.plan.now.steps l c.in-Ok.network) c.greatest.ensures c.in-Ok.ensures.net)
    c.say_net.result c.of_audit.result c.of_audit.ensures c.say_net.ensures.said

pub returns-in-Ok-clause-cause : goal.returns-in-Ok-clause-cause
returns-in-Ok-clause-cause g c =
    stopped_steps c.args.plan.now.task c.args.plan.now.steps c.args.horizon c.args.head.now _ _ _ c.in-Ok.network
    (subst (λ l. IsPlanNetOf c.args.plan.now.task c.args.plan.now.steps l c.in-Ok.network) c.greatest.ensures c.in-Ok.ensures.net)
    c.say_net.result c.of_audit.result c.of_audit.ensures c.say_net.ensures.cause

pub returns-in-Ok-clause-failures : goal.returns-in-Ok-clause-failures
returns-in-Ok-clause-failures g c = told_count c.say_net.result c.of_audit.result _ _ c.of_audit.ensures c.say_net.ensures.failures

pub returns-in-Ok-clause-opened : goal.returns-in-Ok-clause-opened
returns-in-Ok-clause-opened g c = opened_as c.say_net.result c.of_audit.result _ _ c.of_audit.ensures c.say_net.ensures.opened
