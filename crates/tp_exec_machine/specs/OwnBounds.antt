-- What the own bounds of a network from a plan keep, whatever happens.
use Rattle.std.specs.Prelude.{◌≡◌, ◌≢◌, ℕ, ◌<◌, ◌≤◌, List, length, slice_index_or, Option, Some, None}
use Rattle.std.specs.FinMap.{get}
use Rattle.tp_bounds.specs.declared.Bound.{Bound}
use Rattle.tp_bounds.specs.Setting.{Setting, event_count, fixed_at}
use Rattle.tp_bounds.specs.Schedule.{Meets}
use Rattle.tp_bounds.specs.OwnBounds.{IsWithin}
use Rattle.tp_exec_machine.specs.declared.command.Kind.TheVariants.{Kept}
use Rattle.tp_exec_machine.specs.Machine.{Machine}

-- the assignment meets each of a plan's own bounds that is in force
abbrev pub MeetsOwn : Machine → (ℕ → ℕ) → Type 0
MeetsOwn m t = (id : ℕ) (b : Bound) → id < m.own → get m.setting.bounds id ≡ Some b → Meets t b

-- The machine has so many events, and while it is kept, each assignment of moments from 0 to the horizon that meets its own bounds
-- is as wanted. Own bounds have the first identifiers.
pub record KeepsTo (events : ℕ) (wanted : (ℕ → ℕ) → Type 0) (m : Machine) : Type 0 where
  pub count : event_count m.setting ≡ events
  pub first : m.own ≤ m.next
  pub schedules :
      m.kind ≡ Kept → (t : ℕ → ℕ) → IsWithin events m.setting.horizon t → MeetsOwn m t → wanted t

-- every event is dispatched
abbrev pub IsDone : Setting → Type 0
IsDone s = (e : ℕ) → e < event_count s → fixed_at s e ≢ None

-- the moment at which an event was dispatched, 0 if it was not
abbrev pub moment_or_zero : Option ℕ → ℕ
moment_or_zero None = 0
moment_or_zero (Some m) = m

abbrev pub dispatched_at : Setting → ℕ → ℕ
dispatched_at s e = moment_or_zero (fixed_at s e)

-- each event was dispatched at its moment in the list
pub record AreDispatched (s : Setting) (moments : List ℕ) : Type 0 where
  pub count : length moments ≡ event_count s
  pub each : (e : ℕ) → e < length moments → fixed_at s e ≡ Some (slice_index_or moments e 0)

-- the moments of all events, if all are dispatched
abbrev pub TellsMoments : Setting → Option (List ℕ) → Type 0
TellsMoments s None = IsDone s → ⊥
TellsMoments s (Some moments) = AreDispatched s moments
