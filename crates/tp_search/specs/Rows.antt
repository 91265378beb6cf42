-- Which candidates interfere with an action before them, as far as it was asked.
use Rattle.std.specs.Prelude.{◌≡◌, ℕ, nat_lt, Bool, true, false, not, ◌&&◌, List, slice_get, Some}
use Rattle.std.specs.List.{All, filter}
use Rattle.std.specs.List.Sorted.{IsNonDecreasing, IsPermutation}
use Rattle.tp_task.specs.declared.task.Task.{Task}
use Rattle.tp_search.specs.Possible.{interfere}
use Rattle.tp_search.specs.declared.rows.Row.{Row}

-- whether a candidate comes after an action and does not interfere with it
abbrev pub is_free : Task → ℕ → ℕ → Bool
is_free t action candidate = nat_lt action candidate && not (interfere t action candidate)

-- those of some candidates that do, in their order
abbrev pub free_after : Task → List ℕ → ℕ → List ℕ
free_after t among action = filter (is_free t action) among

-- A row lists those after its action that do not interfere with it, and no others, sorted.
pub record IsRow (t : Task) (among : List ℕ) (action : ℕ) (listed : List ℕ) : Type 0 where
  pub sorted : IsNonDecreasing listed
  pub free : IsPermutation (free_after t among action) listed

-- a row that was asked is one
pub record IsAsked (t : Task) (among : List ℕ) (action : ℕ) (row : Row) : Type 0 where
  pub known : row.known ≡ true
  pub is : IsRow t among action row.apart.items

abbrev pub AreUnknown : List Row → Type 0
AreUnknown rows = All (λ (r : Row). r.known ≡ false) rows

-- the row of an action was asked, where the action has one
abbrev pub IsKnown : List Row → ℕ → Type 0
IsKnown rows action = (r : Row) → slice_get rows action ≡ Some r → r.known ≡ true

-- each row that was asked is one
abbrev pub AreRows : Task → List ℕ → List Row → Type 0
AreRows t among rows =
    (a : ℕ) (r : Row) → slice_get rows a ≡ Some r → r.known ≡ true → IsRow t among a r.apart.items
