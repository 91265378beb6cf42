-- Some of the bounds that a table gives under numbers are in force, each under its number.
use Rattle.std.specs.Prelude.{◌≡◌, ◌≢◌, ◌⊎◌, ℕ, Option, Some, None}
use Rattle.std.specs.FinMap.{get}
use Rattle.tp_bounds.specs.declared.Bound.{Bound}
use Rattle.tp_bounds.specs.Setting.{Setting}

-- a setting is another one but for bounds, and each that is in force in it is that of its number
pub record IsPartly (s r : Setting) (of : ℕ → Option Bound) : Type 0 where
  pub others : r ≡ record s { bounds = r.bounds }
  pub each : (q : ℕ) (b : Bound) → get r.bounds q ≡ Some b → of q ≡ Some b

-- The bound of a number has come into force, if there is one, and perhaps others: what was in force is.
pub record Joins (before after : Setting) (of : ℕ → Option Bound) (number : ℕ) : Type 0 where
  pub others : after ≡ record before { bounds = after.bounds }
  pub each : (q : ℕ) (b : Bound) → get after.bounds q ≡ Some b
      → (get before.bounds q ≡ Some b) ⊎ (of q ≡ Some b)
  pub stays : (q : ℕ) → get before.bounds q ≢ None → get after.bounds q ≢ None
  pub there : of number ≢ None → get after.bounds number ≢ None
