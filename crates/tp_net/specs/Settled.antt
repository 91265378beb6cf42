-- What the fields of a network are seen as.
use Rattle.std.specs.Prelude.{ℕ, List, Option, None}
use Rattle.tp_bounds.specs.declared.Bound.{Bound}
use Rattle.tp_bounds.specs.Setting.{Setting}
use Rattle.tp_bounds.specs.Held.{held}

-- the setting that the fields give: nothing is proposed
abbrev pub settled : ℕ → ℕ → List (ℕ × Bound) → List (Option ℕ) → List ℕ → Setting
settled horizon clock bounds fixed lags =
    record {
      horizon = horizon;
      clock = clock;
      bounds = held bounds;
      fixed = fixed;
      lags = lags;
      proposed = None;
    }
