-- What a map of bounds holds, as a finite map.
use Rattle.std.specs.Prelude.{◌≡◌, ℕ, List, Some}
use Rattle.std.specs.Ordering.{nat_cmp}
use Rattle.std.specs.FinMap.{FinMap, from_entries, get}
use Rattle.tp_bounds.specs.declared.Bound.{Bound}
use Rattle.tp_bounds.specs.Setting.{IsInRange}

-- the bounds that the entries of a map give
abbrev pub held : List (ℕ × Bound) → FinMap nat_cmp Bound
held entries = from_entries entries

-- each weight is in range
abbrev pub AreInRange : FinMap nat_cmp Bound → Type 0
AreInRange bounds = (id : ℕ) (b : Bound) → get bounds id ≡ Some b → IsInRange b.w
