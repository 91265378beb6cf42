-- Atoms, fluents and actions by their words, and the words that are mentioned.
use Rattle.std.specs.Prelude.{ℕ, Bool, List, [], ◌∷◌, ◌++◌, codes, if◌then◌else◌}
use Rattle.std.specs.List.{list_any, join_by}
use Rattle.std.specs.Str.{bytes_eq}
use Rattle.std.specs.Cmp.Lexicographic.{pointwise}

-- a name, and then its objects
abbrev pub Words : Type 0
Words = List (List ℕ)

abbrev pub same_words : Words → Words → Bool
same_words = pointwise bytes_eq

abbrev pub has_words : List Words → Words → Bool
has_words known w = list_any (same_words w) known

-- what is known, and then the words if they are new
abbrev pub with_words : List Words → Words → List Words
with_words known w = if has_words known w then known else known ++ w ∷ []

-- what is known, and then each that is new, once
abbrev pub with_all : List Words → List Words → List Words
with_all known [] = known
with_all known (w ∷ ws) = with_all (with_words known w) ws

-- the words, each where it stands first
abbrev pub firsts : List Words → List Words
firsts ws = with_all [] ws

-- '(NAME OBJECT ..)', with one space between
abbrev pub text_of_words : Words → List ℕ
text_of_words ws = codes "(" ++ (join_by (λ w. w) (codes " ") ws ++ codes ")")
