use Rattle.std.proofs.Common.{subst}
use Rattle.std.proofs.lemmas.Result.{IfErr-weaker, IfOk-weaker}
use Rattle.tp_cli_audit.specs.Bare.{HindersTold, IsToldFound}
use Rattle.tp_cli_audit.proofs.AuditLemmas.{bare_found, bare_hinders, head_hinders}
use Rattle.tp_cli_audit.proofs.bare.audit_bare.Goals as goal

pub returns-in-Ok-clause-found : goal.returns-in-Ok-clause-found
returns-in-Ok-clause-found g c =
    IfOk-weaker c.audit_told.result _ _ (λ f h. bare_found f c.in-Ok.head (g.N.Files.held c.args.files.now c.args.log.now) c.in-Ok.ensures.head (subst (λ i. IsToldFound c.in-Ok.head i f) (c.in-Ok.ensures.same c.args.log.now) h)) c.audit_told.ensures.found

pub returns-in-Ok-clause-cause : goal.returns-in-Ok-clause-cause
returns-in-Ok-clause-cause g c =
    IfErr-weaker c.audit_told.result _ _ (λ stop h. bare_hinders stop c.in-Ok.head (g.N.Files.held c.args.files.now c.args.log.now) c.in-Ok.ensures.head (subst (λ i. HindersTold c.in-Ok.head i stop) (c.in-Ok.ensures.same c.args.log.now) h)) c.audit_told.ensures.cause

pub returns-in-Err-clause-cause : goal.returns-in-Err-clause-cause
returns-in-Err-clause-cause g c = head_hinders c.in-Err.stop _ c.in-Err.ensures.cause
