-- Nodes that wait, a queue for each number of goal conjuncts that they lack, from 0 on.
use Rattle.std.specs.Prelude.{ℕ, ◌≡◌, ◌<◌, List, [], ◌∷◌, ◌++◌, length, set, take, slice_index_or}
use Rattle.std.specs.List.{All}

-- no node waits
abbrev pub AreEmpty : List (List ℕ) → Type 0
AreEmpty = All (λ queue. queue ≡ [])

-- one more node waits, that lacks so many
abbrev pub with_node : List (List ℕ) → ℕ → ℕ → List (List ℕ)
with_node queues node lacking =
    set queues lacking (slice_index_or queues lacking [] ++ node ∷ [])

-- a node is taken of those that lack the fewest, and of these the one that waited longest; the others stay
abbrev pub IsTaken : List (List ℕ) → ℕ → ℕ → List (List ℕ) → Type 0
IsTaken before node lacking after =
    AreEmpty (take lacking before) × (lacking < length before)
    × (slice_index_or before lacking [] ≡ node ∷ slice_index_or after lacking [])
    × (after ≡ set before lacking (slice_index_or after lacking []))

-- each node that waited waits still, at its place in its queue, before what came later
abbrev pub GoesOn : List (List ℕ) → List (List ℕ) → Type 0
GoesOn [] [] = Unit {0}
GoesOn [] (_ ∷ _) = ⊥
GoesOn (_ ∷ _) [] = ⊥
GoesOn (queue ∷ queues) (longer ∷ others) =
    ((later : List ℕ) × (longer ≡ queue ++ later)) × GoesOn queues others
