-- A network that came from a validated plan, and the plan of its run.
use Rattle.std.specs.Prelude.{◌≡◌, List, Option, Some, None}
use Rattle.tp_bounds.specs.Setting.{Setting}
use Rattle.tp_deorder.specs.tp_task.declared.task.Task.{Task}
use Rattle.tp_deorder.specs.tp_task.Bounds.{MeetsBounds}
use Rattle.tp_deorder.specs.tp_happen.tp_plan_text.declared.plans.Step.{Step}
use Rattle.tp_deorder.specs.tp_validate.OfTask.{IsOfTask, IsValidPlan, scale_of, plan_of, state_at}
use Rattle.tp_deorder.specs.Inequalities.{event_count_of}
use Rattle.tp_deorder.specs.RunPlans.{run_steps}
use Rattle.tp_exec_machine.specs.declared.command.Kind.TheVariants.{Kept}
use Rattle.tp_exec_machine.specs.Machine.{Machine}
use Rattle.tp_exec_machine.specs.OwnBounds.{KeepsTo, IsDone, dispatched_at}

-- The machine has the plan's events, and while it is kept, each assignment of moments from 0 to the horizon that meets its own bounds
-- meets the bounds of the plan.
abbrev pub CameFrom : Task → List Step → Machine → Type 0
CameFrom t steps m =
    KeepsTo (event_count_of (plan_of t steps))
    (MeetsBounds (scale_of t) (state_at t steps) (plan_of t steps)) m

-- the steps of a plan's run, where every event is dispatched
abbrev pub TellsSteps : Task → List Step → Setting → Option (List Step) → Type 0
TellsSteps t steps s None = IsDone s → ⊥
TellsSteps t steps s (Some p) = IsDone s × (p ≡ run_steps t (dispatched_at s) steps)

-- The plan of a run that is done and kept: the validated steps, each at the moment of its first event and as long as to its last. It
-- is one of the task, it is valid, and so it reaches the goal.
pub record IsPlanOfRun (t : Task) (steps : List Step) (m : Machine) (p : List Step) : Type 0 where
  pub done : IsDone m.setting
  pub kept : m.kind ≡ Kept
  pub is : p ≡ run_steps t (dispatched_at m.setting) steps
  pub of_task : IsOfTask t p
  pub valid : IsValidPlan t p

-- there is none exactly if the run is not done or not kept
abbrev pub TellsPlan : Task → List Step → Machine → Option (List Step) → Type 0
TellsPlan t steps m None = IsDone m.setting → m.kind ≡ Kept → ⊥
TellsPlan t steps m (Some p) = IsPlanOfRun t steps m p
