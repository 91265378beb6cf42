-- What is found at a moment, and what a verdict says.
use Rattle.std.specs.Prelude.{◌≡◌, ℕ, List, Some, None}
use Rattle.tp_task.specs.Valid.{Planned, Placed, at}
use Rattle.tp_task.specs.Verdict as verdict
use Rattle.tp_happen.specs.Stored.{Stored, state_of, OfOneTask}
use Rattle.tp_happen.specs.Bounded.{StaysSmall}
use Rattle.tp_validate.specs.Tick.{after_of, fault_from}
use Rattle.tp_validate.specs.declared.ticks.Fault.{Fault}
use Rattle.tp_validate.specs.declared.ticks.Fault.TheVariants.{Condition, Undefined, Clash, Interferes, OverAll, Duration, Goal}
use Rattle.tp_validate.specs.declared.ticks.Judged.{Judged}
use Rattle.tp_validate.specs.declared.ticks.Judged.TheVariants.{Faulty, Next}

-- the fault that a name stands for
abbrev pub told : Fault → verdict.Fault
told (Condition e) = verdict.Condition e
told (Undefined e) = verdict.Undefined e
told (Clash e) = verdict.Clash e
told (Interferes e f) = verdict.Interferes e f
told (OverAll p) = verdict.OverAll p
told (Duration p) = verdict.Duration p
told Goal = verdict.Goal

-- There is no fault, and the new state is what the events make of the old one.
pub record GoesOn (old : Stored) (m : ℕ) (ps : List Planned) (es : List Placed)
    (new : Stored) : Type 0 where
  pub clear : fault_from old.scale (state_of old) m ps es ≡ None
  pub after : state_of new ≡ after_of old.scale (state_of old) (at m es)
  pub task : OfOneTask old new
  pub small : StaysSmall old.scale (state_of old) (at m es)

-- the first fault at the moment, or the state after it
abbrev pub IsFound : Stored → ℕ → List Planned → List Placed → Judged → Type 0
IsFound old m ps es (Faulty why) = fault_from old.scale (state_of old) m ps es ≡ Some (told why)
IsFound old m ps es (Next new) = GoesOn old m ps es new
