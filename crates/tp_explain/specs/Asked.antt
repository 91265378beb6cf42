-- The words of a call without the one that asks for explanations.
use Rattle.std.specs.Prelude.{◌≡◌, ◌<◌, ℕ, List, length, map, slice_index_or, ◌⊎◌, codes}
use Rattle.std.specs.List.{remove}

-- the word at this place asks for explanations
abbrev pub IsExplain : {A : Type 0} → (A → List ℕ) → List A → ℕ → Type 0
IsExplain {A} bytes words place = (place < length words)
    × ((other : A) → bytes (slice_index_or words place other) ≡ codes "--explain")

-- these are the words, or the words without one that asks for explanations
abbrev pub IsPlain : {A : Type 0} → (A → List ℕ) → List A → List A → Type 0
IsPlain bytes words plain = (plain ≡ words)
    ⊎ ((place : ℕ) × IsExplain bytes words place × (plain ≡ remove words place))

-- a call with the words, or with the words without one that asks for explanations, is so
abbrev pub RunsPlain : {A : Type 0} → (A → List ℕ) → List A → (List (List ℕ) → Type 0) → Type 0
RunsPlain {A} bytes words Runs =
    (plain : List A) × IsPlain bytes words plain × Runs (map bytes plain)
