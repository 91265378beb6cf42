use Rattle.std.proofs.Common.{rules, subst}
use Rattle.std.specs.Prelude.{Some}
use Rattle.std.proofs.lemmas.Result.{IfErr-weaker, IfOk-weaker}
use Rattle.tp_cli_audit.specs.PlanAudits.{LagsFit}
use Rattle.tp_cli_audit.specs.Old.{IsTaken}
use Rattle.tp_cli_audit.proofs.RunResumeLemmas.{comes_from, quiet_hinders}
use Rattle.tp_cli_audit.proofs.run_resume.take_net.Goals as goal

pub returns-in-Ok-clause-taken : goal.returns-in-Ok-clause-taken
returns-in-Ok-clause-taken c =
    let fit : LagsFit c.args.network.now c.args.head.now = search rules in
    IfOk-weaker c.take_up.result _ _ (λ t h. (fit, subst (λ m. IsTaken m c.args.kept.items t) c.in-Ok.ensures.machine h)) c.take_up.ensures.taken

pub returns-in-Ok-clause-came : goal.returns-in-Ok-clause-came
returns-in-Ok-clause-came c =
    IfOk-weaker c.take_up.result _ _ (λ t h. comes_from c.args.network.now c.in-Ok.executive c.args.kept.items t c.in-Ok.ensures.came h) c.take_up.ensures.taken

pub returns-in-Ok-clause-quiet : goal.returns-in-Ok-clause-quiet
returns-in-Ok-clause-quiet c =
    IfErr-weaker c.take_up.result _ _ (λ stop h. quiet_hinders c.in-Ok.executive (Some c.args.kept.items) stop h) c.take_up.ensures.cause
