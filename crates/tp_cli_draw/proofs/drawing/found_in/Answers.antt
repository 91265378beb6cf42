use Rattle.std.proofs.Common.{rules}
use Rattle.tp_cli_audit.specs.PlanAudits.{LagsFit}
use Rattle.tp_cli_audit.proofs.PlanAuditLemmas.{net_found, net_hinders}
use Rattle.tp_cli_draw.proofs.drawing.found_in.Goals as goal

pub returns-in-Ok-audit_in-clause-found : goal.returns-in-Ok-audit_in-clause-found
returns-in-Ok-audit_in-clause-found g c =
    let fit : LagsFit c.args.network.now c.args.head.now = search rules in
    net_found c.in-Ok-audit_in.found c.args.network.now c.args.head.now c.in-Ok.executive _ c.in-Ok.ensures.machine fit c.in-Ok-audit_in.ensures.found

pub returns-in-Err-audit_in-clause-cause : goal.returns-in-Err-audit_in-clause-cause
returns-in-Err-audit_in-clause-cause g c =
    net_hinders c.in-Err-audit_in.stop c.args.network.now c.args.head.now c.in-Ok.executive _ c.in-Ok.ensures.machine c.in-Err-audit_in.ensures.cause
