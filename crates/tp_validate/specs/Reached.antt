-- How far a run has come.
use Rattle.std.specs.Prelude.{◌≡◌, ℕ, suc, ◌≤◌, ◌<◌, List, Option, Some, None}
use Rattle.std.specs.List.{All}
use Rattle.tp_task.specs.declared.task.Task.{Task}
use Rattle.tp_task.specs.Valid.{Planned, Placed, events, at}
use Rattle.tp_task.specs.Verdict.{states, fault_at, last_moment}
use Rattle.tp_happen.specs.Stored.{Stored, state_of, first_of, OfOneTask}
use Rattle.tp_happen.specs.Bounded.{StaysSmall}
use Rattle.tp_validate.specs.OfTask.{scale_of, begin}
use Rattle.tp_validate.specs.declared.verdicts.Ran.{Ran}
use Rattle.tp_validate.specs.declared.verdicts.Ran.TheVariants.{Faulty, Done}
use Rattle.tp_validate.specs.Found.{told}
use Rattle.tp_validate.specs.Tick.{PassesAt}

-- The state is that before a moment, there was no fault before it, and all numbers were small.
pub record Reached (t : Task) (ps : List Planned) (from : ℕ) (state : Stored) : Type 0 where
  pub task : OfOneTask (first_of t) state
  pub state_is : state_of state ≡ states (scale_of t) (begin t) (events ps) from
  pub clear : (k : ℕ) → k < from → fault_at (scale_of t) (begin t) ps k ≡ None
  pub small :
      (k : ℕ) → k < from
      → StaysSmall (scale_of t) (states (scale_of t) (begin t) (events ps) k) (at k (events ps))
  pub bounded : from ≤ suc (last_moment (events ps))

-- a moment is not before the next one, if there is one
abbrev pub IsCovered : ℕ → Option ℕ → Placed → Type 0
IsCovered from None e = e.moment < from
IsCovered from (Some m) e = from ≤ e.moment → m ≤ e.moment

-- The first fault at a moment, or the state after all events.
abbrev pub IsRan : Task → List Planned → Ran → Type 0
IsRan t ps (Faulty m why) =
    ((k : ℕ) → k < m → fault_at (scale_of t) (begin t) ps k ≡ None)
    × (fault_at (scale_of t) (begin t) ps m ≡ Some (told why))
IsRan t ps (Done from state) =
    Reached t ps from state × All (λ (e : Placed). e.moment < from) (events ps)

-- a number passes the limit at a moment before which there is no fault
pub record PassesBy (t : Task) (ps : List Planned) : Type 0 where
  pub moment : ℕ
  pub before : (k : ℕ) → k < moment → fault_at (scale_of t) (begin t) ps k ≡ None
  pub passes :
      PassesAt (scale_of t) (states (scale_of t) (begin t) (events ps) moment) moment ps (events ps)
