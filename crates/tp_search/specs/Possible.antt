-- Which actions can be chosen at tick 0.
use Rattle.std.specs.Prelude.{◌≡◌, ◌<◌, ℕ, Bool, false, not, List, [], ◌∷◌, length, slice_get, Option, Some, None}
use Rattle.std.specs.List.{AllByRecursion, list_any}
use Rattle.std.specs.Option.{option_and_then}
use Rattle.tp_task.specs.declared.task.Task.{Task}
use Rattle.tp_task.specs.declared.events.Body.TheVariants.{Instant}
use Rattle.tp_task.specs.declared.events.GroundEvent.{GroundEvent}
use Rattle.tp_task.specs.Event.{interferes}
use Rattle.tp_task.specs.Happens.{EventOfStep}
use Rattle.tp_task.specs.Bounds.{In}
use Rattle.tp_happen.specs.declared.events.Part.TheVariants.{Only}
use Rattle.tp_happen.specs.Parts.{part_of}
use Rattle.tp_validate.specs.OfTask.{scale_of, begin}
use Rattle.tp_search.specs.AtOnce.{CanHappen}

-- an event without ticks, alone
abbrev pub alone : GroundEvent → List EventOfStep
alone e = record { event = e; ticks = 0 } ∷ []

-- an action that is one event, which can happen alone in the state in which the task begins
pub record CanBegin (t : Task) (a : ℕ) : Type 0 where
  pub event : GroundEvent
  pub is : slice_get t.actions.items a ≡ Some (Instant event)
  pub can : CanHappen (scale_of t) (begin t) (alone event)

-- the event of an action that is one event
abbrev pub only_event : Task → ℕ → Option GroundEvent
only_event t a = option_and_then (λ b. part_of b Only) (slice_get t.actions.items a)

-- whether two actions are one event each, and these interfere
abbrev pub both_interfere : Option GroundEvent → Option GroundEvent → Bool
both_interfere (Some one) (Some other) = interferes one other
both_interfere (Some one) None = false
both_interfere None other = false

abbrev pub interfere : Task → ℕ → ℕ → Bool
interfere t a b = both_interfere (only_event t a) (only_event t b)

-- whether none of those chosen interferes with an action
abbrev pub is_apart : Task → List ℕ → ℕ → Bool
is_apart t chosen a = not (list_any (λ b. interfere t b a) chosen)

-- Actions of the task, among them all that can begin.
pub record AreCandidates (t : Task) (count : ℕ) (among : List ℕ) : Type 0 where
  pub known : AllByRecursion (λ a. a < length t.actions.items) among
  pub all : (a : ℕ) → a < count → CanBegin t a → In a among

-- the numbers rise
abbrev pub AreRising : List ℕ → Type 0
AreRising [] = Unit {0}
AreRising (a ∷ as') = AllByRecursion (λ b. a < b) as' × AreRising as'
