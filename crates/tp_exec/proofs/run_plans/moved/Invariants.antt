use Rattle.std.proofs.Common.{◌≡◌, ◌≤◌, ◌*◌, ◌++◌, get_or, drop}
use Rattle.tp_deorder.specs.RunPlans.{moved_from, run_steps}
use Rattle.tp_exec.proofs.run_plans.moved.Given as goal

abbrev pub invariant-loop-step : goal.invariant-loop-step
invariant-loop-step l =
    record {
      steps : l.moved.items ++ moved_from l.task.actions.items (λ e. get_or l.moments e 0) l.event (drop l.step-index l.steps) ≡ run_steps l.task (λ e. get_or l.moments e 0) l.steps;
      few : l.event ≤ 2 * l.step-index;
    }
