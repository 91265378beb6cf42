-- The rows that checks allow.
use Rattle.std.specs.Prelude.{◌≡◌, ◌⊎◌, ℕ, List, [], ◌∷◌, ◌++◌, map, true, if◌then◌else◌}
use Rattle.std.specs.List.{flat_map}
use Rattle.tp_ground_joins.specs.Views.{keyed_view}
use Rattle.tp_ground_joins.specs.Checks.{all_allow}
use Rattle.tp_ground_joins.specs.declared.checks.Check.{Check}
use Rattle.tp_ground_joins.specs.declared.keyed.Keyed.{Keyed}
use Rattle.tp_ground_joins.specs.declared.rows.Level.{Level}

-- All rows that begin with some names and have one name of each further level, where the checks of each level allow the row
-- up to there. The first name varies slowest.
abbrev pub walked : List Level → List (List ℕ) → List (List (List ℕ))
walked [] row = row ∷ []
walked (l ∷ ls) row =
    flat_map (λ n. if all_allow l.checks.items (row ++ keyed_view n ∷ []) then walked ls (row ++ keyed_view n ∷ []) else []) l.names.items

-- those that go on with a name
abbrev pub walked_with : List Check → List Level → List (List ℕ) → Keyed → List (List (List ℕ))
walked_with cs ls row n =
    if all_allow cs (row ++ keyed_view n ∷ []) then walked ls (row ++ keyed_view n ∷ []) else []

abbrev pub IsIn : {X : Type 0} → X → List X → Type 0
IsIn x [] = ⊥
IsIn x (y ∷ ys) = (x ≡ y) ⊎ IsIn x ys

-- Behind some names come these, one of each level, and the checks of each level allow the row up to there.
abbrev pub IsAllowed : List Level → List (List ℕ) → List (List ℕ) → Type 0
IsAllowed [] row [] = Unit {0}
IsAllowed [] row (n ∷ ns) = ⊥
IsAllowed (l ∷ ls) row [] = ⊥
IsAllowed (l ∷ ls) row (n ∷ ns) =
    IsIn n (map keyed_view l.names.items) × (all_allow l.checks.items (row ++ n ∷ []) ≡ true)
    × IsAllowed ls (row ++ n ∷ []) ns
