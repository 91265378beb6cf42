use Rattle.std.proofs.Common.{◌≡◌, ◌≤◌, length, subst, ◌∙◌}
use Rattle.tp_deorder.specs.RunPlans.{run_steps}
use Rattle.tp_exec_machine.specs.OwnBounds.{dispatched_at, AreDispatched}
use Rattle.tp_exec.proofs.FromPlans.{steps_are, run_is_plan}
use Rattle.tp_exec_machine.proofs.Keeping.{are_done}
use Rattle.tp_exec.proofs.run_plans.plan_at.Goals as goal

pub new-requires : goal.new-requires
new-requires g c =
    let s = g.N.Net.seen c.args.net.now in
    let steps = c.args.plan.now.steps in
    let d : AreDispatched s c.in-Some.moments.items = rw c.in-Some.is at c.in_ok-moments.ensures.moments in
    let is : c.in_ok-steps.steps.items ≡ run_steps c.args.plan.now.task (dispatched_at s) steps =
    steps_are c.args.plan.now.task _ steps _ c.in-Some.moments.items _ s c.in_ok-steps.steps.items c.task-task.ensures.task (c.steps.ensures.steps ∙ c.plan.ensures.plan) c.deref.ensures.value d c.in_ok-steps.ensures in
    run_is_plan c.args.plan.now.task steps s _ c.in_ok-moments.ensures.lawful (subst (λ xs. length xs ≤ 512) c.plan.ensures.plan c.steps.ensures.plan.few) is

pub returns-clause-steps : goal.returns-clause-steps
returns-clause-steps g c =
    let s = g.N.Net.seen c.args.net.now in
    let steps = c.args.plan.now.steps in
    let d : AreDispatched s c.in-Some.moments.items = rw c.in-Some.is at c.in_ok-moments.ensures.moments in
    let is : c.in_ok-steps.steps.items ≡ run_steps c.args.plan.now.task (dispatched_at s) steps =
    steps_are c.args.plan.now.task _ steps _ c.in-Some.moments.items _ s c.in_ok-steps.steps.items c.task-task.ensures.task (c.steps.ensures.steps ∙ c.plan.ensures.plan) c.deref.ensures.value d c.in_ok-steps.ensures in
    (are_done s c.in-Some.moments.items d, c.new.ensures ∙ is)
