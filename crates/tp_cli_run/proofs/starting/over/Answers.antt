use Rattle.std.proofs.Common.{◌∙◌, ap, subst, sym}
use Rattle.std.proofs.lemmas.Result.{IfOk-weaker}
use Rattle.tp_bounds.specs.RunLimits.{greatest_limits}
use Rattle.tp_exec.specs.FromPlan.{CameFrom}
use Rattle.tp_exec_machine.specs.Machine.{plan_machine}
use Rattle.tp_exec.proofs.FromPlans.{start_came}
use Rattle.tp_cli_run.proofs.starting.over.Goals as goal

pub returns-clause-machine : goal.returns-clause-machine
returns-clause-machine c =
    IfOk-weaker c.from_plan.result _ _ (λ e is. is ∙ ap (plan_machine c.args.net.setting c.args.network.now.bounds.items) c.greatest.ensures) c.from_plan.ensures

pub returns-clause-came : goal.returns-clause-came
returns-clause-came c =
    IfOk-weaker c.from_plan.result _ _ (λ e is. λ t steps net. subst (CameFrom t steps) (sym is)
    (start_came t steps (greatest_limits c.args.network.now.horizon) c.greatest.result c.args.network.now c.args.net.setting net c.requires.fresh c.requires.events c.requires.until)) c.from_plan.ensures
