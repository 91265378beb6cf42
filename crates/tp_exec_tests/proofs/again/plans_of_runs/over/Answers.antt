use Rattle.std.proofs.Common.{◌∙◌, None, ap, arith, subst, sym}
use Rattle.std.proofs.lemmas.List.{length-replicate}
use Rattle.tp_bounds.specs.Setting.{Setting, event_count}
use Rattle.tp_exec.specs.FromPlan.{CameFrom}
use Rattle.tp_exec_machine.specs.Machine.{IsFresh}
use Rattle.tp_exec_machine.proofs.Ready.{fresh_new}
use Rattle.tp_exec_tests.proofs.again.plans_of_runs.over.Goals as goal

pub returns : goal.returns
returns c =
    subst (CameFrom c.args.plan.now.task c.args.plan.now.steps) (sym c.in_ok-from_plan.ensures)
    (c.networks_come_from_their_plans.ensures c.args.plan.now.task c.args.plan.now.steps c.args.limits.now c.greatest-most.result c.args.network.now c.in_ok-net.net.setting c.requires
    (subst IsFresh (sym c.in_ok-net.ensures.setting) (fresh_new _ _))
    (ap event_count c.in_ok-net.ensures.setting ∙ (length-replicate c.len-2.result None ∙ omega (arith, c.len-2.ensures)))
    (ap (λ (s : Setting). s.horizon) c.in_ok-net.ensures.setting))
