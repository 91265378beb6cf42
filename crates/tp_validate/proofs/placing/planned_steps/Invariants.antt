-- What is planned so far, and what the steps that are left give, is the whole plan.
use Rattle.std.proofs.Common.{◌≡◌, ◌++◌, drop}
use Rattle.tp_validate.specs.OfTask.{planned}
use Rattle.tp_validate.proofs.placing.planned_steps.Given as goal

abbrev pub invariant-loop-step : goal.invariant-loop-step
invariant-loop-step l = l.planned.items ++ planned l.task.actions.items (drop l.step-index l.steps) ≡ planned l.task.actions.items l.steps
