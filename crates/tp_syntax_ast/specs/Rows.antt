-- Rows of items that are alike, told by marks.
use Rattle.std.specs.Prelude.{◌≡◌, ℕ, List, [], ◌∷◌, Bool, true, false, slice_get, Option, Some, None}

-- the last of some items, or else the one before them
abbrev pub last_of : {T : Type 0} → T → List T → T
last_of x [] = x
last_of x (y ∷ ys) = last_of y ys

-- an item that is marked is as the one before it
abbrev pub AreRows : {T : Type 0} → List Bool → T → List T → Type 0
AreRows [] x ys = Unit {0}
AreRows (m ∷ ms) x [] = Unit {0}
AreRows (m ∷ ms) x (y ∷ ys) = (m ≡ true → x ≡ y) × AreRows ms y ys

abbrev pub is_set : Option Bool → Bool
is_set (Some m) = m
is_set None = false

-- where there are no more marks, nothing is marked
abbrev pub is_marked : List Bool → ℕ → Bool
is_marked ms k = is_set (slice_get ms k)
