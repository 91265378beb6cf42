-- What the checks of a reason and of a schedule say.
use Rattle.std.specs.Prelude.{◌≡◌, ◌≢◌, ℕ, ◌<◌, ◌≤◌, List, [], ◌∷◌, length, slice_index_or, Option, Some, MatchOption}
use Rattle.std.specs.List.{filter_map}
use Rattle.std.specs.Ordering.{nat_cmp}
use Rattle.std.specs.FinMap.{FinMap, get}
use Rattle.tp_bounds.specs.declared.Point.{Point}
use Rattle.tp_bounds.specs.declared.Bound.{Bound}
use Rattle.tp_bounds.specs.declared.Edge.{Edge}
use Rattle.tp_bounds.specs.declared.certificates.Broken.{Broken}
use Rattle.tp_bounds.specs.declared.certificates.Broken.TheVariants.{Length, Event as Misplaced, Bound as Unmet, Proposed}
use Rattle.tp_bounds.specs.Setting.{Setting, event_count, fixed_at, floor_of}
use Rattle.tp_bounds.specs.Schedule.{Meets, IsSchedule}
use Rattle.tp_bounds.specs.Reasons.{bound_of, AreBounds, IsClosed}

-- the bounds of those of the edges that exist, one after another
abbrev pub bounds_of : Setting → List Edge → List Bound
bounds_of s edges = filter_map (bound_of s) edges

-- the edges exist in the setting, and lead from one point to the other, each from where the one before ends
abbrev pub IsChain : Setting → Point → List Edge → Point → Type 0
IsChain s from [] to = from ≡ to
IsChain s from (e ∷ es) to =
    (b : Bound) × (bound_of s e ≡ Some b) × (b.from ≡ from) × IsChain s b.to es to

-- the edges exist in the setting, and lead back to where the first begins
abbrev pub IsClosedChain : Setting → List Edge → Type 0
IsClosedChain s edges = (bounds : List Bound) × AreBounds s edges bounds × IsClosed bounds

-- the assignment that gives each event its moment in the list
abbrev pub moments_of : List ℕ → ℕ → ℕ
moments_of moments e = slice_index_or moments e 0

-- the moments, one for each event, are a schedule that remains
pub record IsListedSchedule (s : Setting) (moments : List ℕ) : Type 0 where
  pub each : length moments ≡ event_count s
  pub schedule : IsSchedule s (moments_of moments)

-- The event may happen at the moment, whatever the bounds say: when it was dispatched, or else from its floor to the horizon.
abbrev pub MayHappen : Setting → ℕ → ℕ → Type 0
MayHappen s e moment =
    MatchOption (fixed_at s e) ((floor_of s e ≤ moment)
    × (moment ≤ s.horizon)) (λ fixed. moment ≡ fixed)

-- each event may happen at its moment in the list
abbrev pub AllMayHappen : Setting → List ℕ → Type 0
AllMayHappen s moments = (e : ℕ) → e < event_count s → MayHappen s e (moments_of moments e)

-- there is the event, and it can't happen at its moment in the list
abbrev pub IsMisplaced : Setting → List ℕ → ℕ → Type 0
IsMisplaced s moments e = (e < event_count s) × ¬ MayHappen s e (moments_of moments e)

-- the moments in the list meet each of the bounds
abbrev pub MeetsAll : FinMap nat_cmp Bound → List ℕ → Type 0
MeetsAll bounds moments =
    (id : ℕ) (b : Bound) → get bounds id ≡ Some b → Meets (moments_of moments) b

-- there is the bound, and the moments in the list don't meet it
abbrev pub IsUnmet : Option Bound → List ℕ → Type 0
IsUnmet bound moments = (b : Bound) × (bound ≡ Some b) × ¬ Meets (moments_of moments) b

-- What moments break that are not a schedule which remains: their number is not that of the events; or else an event can't happen
-- at its moment, or a bound in force or the one that is asked for is not met.
abbrev pub Breaks : Setting → List ℕ → Broken → Type 0
Breaks s moments Length = length moments ≢ event_count s
Breaks s moments (Misplaced e) = (length moments ≡ event_count s) × IsMisplaced s moments e
Breaks s moments (Unmet id) = (length moments ≡ event_count s) × IsUnmet (get s.bounds id.0) moments
Breaks s moments Proposed = (length moments ≡ event_count s) × IsUnmet s.proposed moments
