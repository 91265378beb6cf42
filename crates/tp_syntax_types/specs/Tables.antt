-- Where names stand in a list.
use Rattle.std.specs.Prelude.{◌≡◌, ℕ, ◌+◌, List, [], ◌∷◌, if◌then◌else◌, Option, Some, None, option_map}
use Rattle.std.specs.Borrow.{Bor}
use Rattle.std.specs.BTreeMap.{BTreeMap, get_by}
use Rattle.std.specs.Cmp.Lexicographic.{slice_cmp}
use Rattle.std.specs.Ordering.{nat_cmp}
use Rattle.std.specs.Str.{bytes_eq}

abbrev pub Name : Type 0
Name = List ℕ

-- the first place of a name
abbrev pub place_of : Name → List Name → Option ℕ
place_of n [] = None
place_of n (m ∷ ms) = if bytes_eq m n then Some 0 else option_map (λ k. k + 1) (place_of n ms)

-- names in order, each with a place
abbrev pub Table : Type 0
Table = BTreeMap (Bor (List ℕ)) ℕ

abbrev pub found : Table → Name → Option ℕ
found t n = get_by (λ k. slice_cmp nat_cmp n k.now) t

-- it has the first place of each name
abbrev pub IsTable : Table → List Name → Type 0
IsTable t ns = (n : Name) → found t n ≡ place_of n ns

-- the first item of a name
abbrev pub item_of : {X : Type 0} → (X → Name) → Name → List X → Option X
item_of named n [] = None
item_of named n (x ∷ xs) = if bytes_eq (named x) n then Some x else item_of named n xs

-- what is found, or else the place of a name
abbrev pub or_place : Option ℕ → Name → ℕ → Name → Option ℕ
or_place (Some k) m at n = Some k
or_place None m at n = if bytes_eq m n then Some at else None
