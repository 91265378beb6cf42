-- The relaxed reach of a task.
use Rattle.std.specs.Prelude.{◌≡◌, ℕ, Bool, true, false, List, None, slice_index_or}
use Rattle.tp_task.specs.declared.events.GroundEvent.{GroundEvent}
use Rattle.tp_task.specs.declared.task.Task.{Task}
use Rattle.tp_task.specs.State.{State}
use Rattle.tp_task.specs.Reach.{met, IsReach}
use Rattle.tp_task.specs.Rounds.{acts_of_bodies}

-- the events of the task's actions, and the state in which it begins
abbrev pub acts_of : Task → List GroundEvent
acts_of t = acts_of_bodies t.actions.items

abbrev pub first_state : Task → State
first_state t =
    record {
      atom = λ a. slice_index_or t.initial_atoms.items a false;
      number = λ f. slice_index_or t.initial_numbers.items f None;
    }

-- The goal is met in the relaxed reach, or it is not.
pub record GoalIs (t : Task) (answer : Bool) : Type 0 where
  pub reach : ℕ → Bool
  pub is_reach : IsReach (first_state t) (acts_of t) reach
  pub goal : met reach true t.goal ≡ answer
