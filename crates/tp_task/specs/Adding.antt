-- What events add to a set of atoms, and that they add no more.
use Rattle.std.specs.Prelude.{◌≡◌, ℕ, Bool, true, List}
use Rattle.tp_task.specs.declared.events.GroundEvent.{GroundEvent}
use Rattle.tp_task.specs.Bounds.{In}
use Rattle.tp_task.specs.Event.{has}
use Rattle.tp_task.specs.Reach.{met}
use Rattle.tp_task.specs.Rounds.{set_of}

-- The set has what each event adds whose condition it meets.
pub record HasAdded (acts : List GroundEvent) (reach : ℕ → Bool) : Type 0 where
  pub added :
      (e : GroundEvent) → In e acts
      → met reach true e.condition ≡ true → (a : ℕ) → has e.adds.items a ≡ true → reach a ≡ true

-- The new atoms have the old ones, and each set that has the old ones and what the events add has them.
pub record Adds (acts : List GroundEvent) (old new : List Bool) : Type 0 where
  pub kept : (a : ℕ) → set_of old a ≡ true → set_of new a ≡ true
  pub least :
      (other : ℕ → Bool) → HasAdded acts other → ((a : ℕ) → set_of old a ≡ true → other a ≡ true)
      → (a : ℕ) → set_of new a ≡ true → other a ≡ true

-- No event whose condition the set meets has more to add.
abbrev pub IsSettled : List GroundEvent → List Bool → Type 0
IsSettled acts xs = HasAdded acts (set_of xs)
