-- The order in which bounds come into force.
use Rattle.std.specs.Prelude.{◌≡◌, ℕ, List, Bool, false, cond, nat_eq, nat_lt, slice_index_or}
use Rattle.std.specs.List.{count_by}

-- each place below a count stands in the list once, and nothing else does
abbrev pub AreAllPlaces : ℕ → List ℕ → Type 0
AreAllPlaces count places = (p : ℕ) → count_by (nat_eq p) places ≡ cond (nat_lt p count) 1 0

-- those that are marked stand in the list once, and nothing else does
abbrev pub AreListed : List Bool → List ℕ → Type 0
AreListed there places =
    (p : ℕ) → count_by (nat_eq p) places ≡ cond (slice_index_or there p false) 1 0
