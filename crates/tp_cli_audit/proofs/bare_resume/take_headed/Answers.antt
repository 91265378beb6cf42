use Rattle.std.proofs.Common.{rules, subst}
use Rattle.std.specs.Prelude.{Some}
use Rattle.std.proofs.lemmas.Result.{IfErr-weaker, IfOk-weaker}
use Rattle.tp_cli_audit.specs.Audits.{Hinders}
use Rattle.tp_cli_audit.specs.Bare.{IsBareHead}
use Rattle.tp_cli_audit.proofs.AuditLemmas.{told_hinders}
use Rattle.tp_cli_audit.specs.Old.{IsTaken}
use Rattle.tp_cli_audit.proofs.bare_resume.take_headed.Goals as goal

pub returns-in-Ok-clause-taken : goal.returns-in-Ok-clause-taken
returns-in-Ok-clause-taken c =
    let is : IsBareHead c.args.head.now = search rules in
    IfOk-weaker c.take_up.result _ _ (λ t h. (is.bare, subst (λ m. IsTaken m c.args.kept.items t) c.in-Ok.ensures.machine h)) c.take_up.ensures.taken

pub returns-in-Ok-clause-cause : goal.returns-in-Ok-clause-cause
returns-in-Ok-clause-cause c =
    IfErr-weaker c.take_up.result _ _ (λ stop h. told_hinders stop c.args.head.now (Some c.args.kept.items) (subst (λ m. Hinders m (Some c.args.kept.items) stop) c.in-Ok.ensures.machine h)) c.take_up.ensures.cause
