-- Bounds in force by rising identifier.
use Rattle.std.specs.Prelude.{◌≡◌, ℕ, ◌≤◌, nat_lt, count_by, Option, Some, None}
use Rattle.std.specs.Ordering.{nat_cmp}
use Rattle.std.specs.FinMap.{FinMap, get, len, keys}
use Rattle.tp_bounds.specs.declared.Bound.{Bound}
use Rattle.tp_bounds.specs.declared.BoundId.{BoundId}

-- how many identifiers in force are lower
abbrev pub lower_count : FinMap nat_cmp Bound → ℕ → ℕ
lower_count bounds id = count_by (λ other. nat_lt other id) (keys bounds)

-- The bound is in force under that identifier, and just k of those in force are lower. There is none exactly where no more than k
-- are in force.
abbrev pub IsNth : FinMap nat_cmp Bound → ℕ → Option (BoundId × Bound) → Type 0
IsNth bounds k None = len bounds ≤ k
IsNth bounds k (Some p) = (get bounds p.0.0 ≡ Some p.1) × (lower_count bounds p.0.0 ≡ k)
