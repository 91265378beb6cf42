use Rattle.std.proofs.Common.{rules}
use Rattle.std.proofs.lemmas.Result.{IfErr-weaker, IfOk-weaker}
use Rattle.tp_cli_audit.specs.PlanAudits.{LagsFit}
use Rattle.tp_cli_audit.proofs.PlanAuditLemmas.{net_found, net_hinders}
use Rattle.tp_cli_audit.proofs.plan_auditing.audit_net.Goals as goal

pub returns-in-Ok-clause-found : goal.returns-in-Ok-clause-found
returns-in-Ok-clause-found g c =
    let fit : LagsFit c.args.network.now c.args.head.now = search rules in
    IfOk-weaker c.audit_of.result _ _ (λ f h. net_found f c.args.network.now c.args.head.now c.in-Ok.executive _ c.in-Ok.ensures.machine fit h) c.audit_of.ensures.found

pub returns-in-Ok-clause-cause : goal.returns-in-Ok-clause-cause
returns-in-Ok-clause-cause g c =
    IfErr-weaker c.audit_of.result _ _ (λ stop h. net_hinders stop c.args.network.now c.args.head.now c.in-Ok.executive _ c.in-Ok.ensures.machine h) c.audit_of.ensures.cause
