use Rattle.std.proofs.Common.{rules, subst}
use Rattle.std.proofs.lemmas.Result.{IfErr-weaker, IfOk-weaker}
use Rattle.tp_cli_audit.specs.Audits.{Hinders}
use Rattle.tp_cli_audit.specs.Bare.{IsBareHead}
use Rattle.tp_cli_audit.proofs.AuditLemmas.{told_found, told_hinders}
use Rattle.tp_cli_audit.proofs.bare.audit_told.Goals as goal

pub returns-in-Ok-clause-found : goal.returns-in-Ok-clause-found
returns-in-Ok-clause-found g c =
    let is : IsBareHead c.args.head.now = search rules in
    IfOk-weaker c.audit_in.result _ _ (λ f h. told_found f c.args.head.now c.in-Ok.executive (g.N.Files.held c.args.files.now c.args.log.now) c.in-Ok.ensures.machine is.bare h) c.audit_in.ensures.found

pub returns-in-Ok-clause-cause : goal.returns-in-Ok-clause-cause
returns-in-Ok-clause-cause g c =
    IfErr-weaker c.audit_in.result _ _ (λ stop h. told_hinders stop c.args.head.now (g.N.Files.held c.args.files.now c.args.log.now) (subst (λ m. Hinders m (g.N.Files.held c.args.files.now c.args.log.now) stop) c.in-Ok.ensures.machine h)) c.audit_in.ensures.cause
