-- What a table of keys has.
use Rattle.std.specs.Prelude.{ℕ, List, Bool, nat_eq}
use Rattle.std.specs.List.{list_all}
use Rattle.std.specs.HashSet.{contains}
use Rattle.tp_ground_joins.specs.Keys.{key_of, names_at}
use Rattle.tp_ground_joins.specs.declared.checks.Check.{Check}

-- the key of a row's names in the columns is there
abbrev pub has_row : Check → List (List ℕ) → Bool
has_row c row = contains nat_eq c.keys (key_of 0 (names_at c.columns.items row))

-- the key of a binding's names at the places is there
abbrev pub allows : Check → List (List ℕ) → Bool
allows c row = contains nat_eq c.keys (key_of 0 (names_at c.places.items row))

abbrev pub all_allow : List Check → List (List ℕ) → Bool
all_allow cs row = list_all (λ c. allows c row) cs
