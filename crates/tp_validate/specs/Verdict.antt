-- What a verdict on a plan means, and when a number passes the limit before it.
use Rattle.std.specs.Prelude.{◌≡◌, ℕ, ◌<◌, true, false, List, None, ◌⊎◌}
use Rattle.tp_task.specs.declared.task.Task.{Task}
use Rattle.tp_task.specs.State.{holds}
use Rattle.tp_task.specs.Valid.{at}
use Rattle.tp_happen.specs.tp_plan_text.declared.plans.Step.{Step}
use Rattle.tp_happen.specs.Small.{all_small}
use Rattle.tp_happen.specs.Bounded.{StaysSmall}
use Rattle.tp_validate.specs.OfTask.{IsOfTask, scale_of, plan_of, events_of, state_at, last_state, fault_in}
use Rattle.tp_validate.specs.Tick.{PassesAt}

-- A plan has no fault at any moment, it reaches the goal, and its run is worked out in small numbers.
pub record IsSound (t : Task) (steps : List Step) : Type 0 where
  pub clear : (m : ℕ) → fault_in t steps m ≡ None
  pub reached : holds (last_state t steps) t.goal ≡ true
  pub small : (m : ℕ) → StaysSmall (scale_of t) (state_at t steps m) (at m (events_of t steps))

-- A number passes the limit in the run, at a moment before which there is no fault: in the happening there, in an
-- invariant after it, or, if no moment has a fault, in the goal after the last one.
pub record PassesIn (t : Task) (steps : List Step) : Type 0 where
  pub moment : ℕ
  pub before : (k : ℕ) → k < moment → fault_in t steps k ≡ None
  pub passes :
      PassesAt (scale_of t) (state_at t steps moment) moment (plan_of t steps) (events_of t steps)
      ⊎ (((k : ℕ) → fault_in t steps k ≡ None) × (all_small (last_state t steps) t.goal ≡ false))

-- What is known of a validated plan: it is of its task, and it is sound.
pub record IsValidated (t : Task) (steps : List Step) : Type 0 where
  pub of_task : IsOfTask t steps
  pub sound : IsSound t steps
