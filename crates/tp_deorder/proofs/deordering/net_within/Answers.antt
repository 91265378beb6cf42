use Rattle.std.proofs.Common.{◌≡◌, length}
use Rattle.tp_validate.specs.OfTask.{plan_of}
use Rattle.tp_deorder.specs.Inequalities.{event_count_of}
use Rattle.tp_deorder.proofs.OnPlanNets.{texts_count, plan_is_net, is_plan_net}
use Rattle.tp_deorder.proofs.deordering.net_within.Goals as goal

pub invariant_of-result : goal.invariant_of-result
invariant_of-result c =
    let few : length c.in_ok-events.events.items ≡ event_count_of (plan_of c.args.task.now c.args.steps.now) = texts_count c.args.task.now c.args.steps.now c.in_ok-events.events.items c.in_ok-events.ensures in
    record { net = plan_is_net c.args.task.now c.args.steps.now c.args.limits.now.horizon _ _ _ c.in_ok-bounds.ensures.net c.requires.plan.few c.horizon.ensures.horizon c.horizon.ensures.in_time few }

pub returns-clause-net : goal.returns-clause-net
returns-clause-net c =
    let few : length c.in_ok-events.events.items ≡ event_count_of (plan_of c.args.task.now c.args.steps.now) = texts_count c.args.task.now c.args.steps.now c.in_ok-events.events.items c.in_ok-events.ensures in
    is_plan_net c.args.task.now c.args.steps.now c.args.limits.now _ c.horizon.ensures.horizon c.in_ok-events.ensures few c.in_ok-bounds.ensures.events c.in_ok-bounds.ensures.few c.in_ok-bounds.ensures.bounds c.in_ok-bounds.ensures.net
