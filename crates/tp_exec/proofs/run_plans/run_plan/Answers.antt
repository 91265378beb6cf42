use Rattle.std.proofs.Common.{◌≡◌, sym, ◌∙◌}
use Rattle.tp_deorder.proofs.OnNets.{ok_weaker}
use Rattle.tp_exec_machine.specs.declared.command.Kind.TheVariants.{Kept}
use Rattle.tp_exec.specs.FromPlan.{TellsSteps, TellsPlan}
use Rattle.tp_exec.proofs.FromPlans.{plan_told}
use Rattle.tp_exec.proofs.run_plans.run_plan.Goals as goal

pub returns-in-Kept : goal.returns-in-Kept
returns-in-Kept g c =
    let m = c.args.executive.now in
    let s = g.N.Net.seen c.net.result.now in
    let task = c.args.plan.now.task in
    let steps = c.args.plan.now.steps in
    let kept : m.kind ≡ Kept = sym c.kind.ensures ∙ c.in-Kept.is in
    ok_weaker c.plan_at.result (TellsSteps task steps s) (TellsPlan task steps m)
    (plan_told task steps m s c.net.ensures c.requires c.plan_at.ensures.sound c.plan_at.ensures.lawful c.plan_at.ensures.possible kept)
    c.plan_at.ensures.steps
