-- One name out of each of some lists.
use Rattle.std.specs.Prelude.{◌≡◌, ℕ, ◌+◌, ◌<◌, ◌≤◌, nat_lt, Bool, List, [], ◌∷◌, ◌++◌, map, length, drop, slice_index, slice_index_or, Option, Some, None}
use Rattle.std.specs.Borrow.{Bor}
use Rattle.std.proofs.Common.{Vec, Global}
use Rattle.std.specs.List.{flat_map}
use Rattle.std.specs.Cow.{cow_slice_items}
use Rattle.std.specs.declared.borrow.CowSlice.{CowSlice}

-- all rows, the first name varies slowest
abbrev pub product : List (List (List ℕ)) → List (List (List ℕ))
product [] = [] ∷ []
product (ns ∷ nss) = flat_map (λ n. map (λ rest. n ∷ rest) (product nss)) ns

-- the row of the names at these places
abbrev pub row_at : List (List (List ℕ)) → List ℕ → List (List ℕ)
row_at [] ps = []
row_at (ns ∷ nss) [] = []
row_at (ns ∷ nss) (p ∷ ps) = slice_index_or ns p [] ∷ row_at nss ps

-- the rows behind it
abbrev pub rows_behind : List (List (List ℕ)) → List ℕ → List (List (List ℕ))
rows_behind [] ps = []
rows_behind (ns ∷ nss) [] = []
rows_behind (ns ∷ nss) (p ∷ ps) =
    map (λ rest. slice_index_or ns p [] ∷ rest) (rows_behind nss ps)
    ++ flat_map (λ n. map (λ rest. n ∷ rest) (product nss)) (drop (p + 1) ns)

abbrev pub has_names : List (List ℕ) → Bool
has_names ns = nat_lt 0 (length ns)

-- no name stands behind the one at the list's place
abbrev pub IsAtEnd : List (List (List ℕ)) → List ℕ → ℕ → Type 0
IsAtEnd nss ps k = length (slice_index_or nss k []) ≤ slice_index ps k + 1

-- the last list with a name behind the one at its place
abbrev pub IsLast : List (List (List ℕ)) → List ℕ → Option ℕ → Type 0
IsLast nss ps None = (k : ℕ) → k < length ps → IsAtEnd nss ps k
IsLast nss ps (Some i) =
    (i < length ps) × (slice_index ps i + 1 < length (slice_index_or nss i []))
    × ((k : ℕ) → i < k → k < length ps → IsAtEnd nss ps k)

-- one place moved on, and those behind it moved back to the first
pub record IsTurned (i : ℕ) (ps qs : List ℕ) : Type 0 where
  pub long : length qs ≡ length ps
  pub before : (k : ℕ) → k < i → slice_index qs k ≡ slice_index ps k
  pub at : slice_index qs i ≡ slice_index ps i + 1
  pub behind : (k : ℕ) → i < k → k < length qs → slice_index qs k ≡ 0

abbrev pub names_of : Vec (Bor (List ℕ)) Global → List (List ℕ)
names_of v = map (λ o. o.now) v.items

-- names that may be lent
abbrev pub Names : Type 0
Names = CowSlice (Bor (List ℕ)) Global

abbrev pub names_in : Names → List (List ℕ)
names_in ns = map (λ o. o.now) (cow_slice_items ns)

abbrev pub lists_of : List Names → List (List (List ℕ))
lists_of nss = map names_in nss
