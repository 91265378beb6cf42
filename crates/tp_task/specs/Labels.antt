-- Words as the numbers of their names, and the numberings that are kept so.
use Rattle.std.specs.Prelude.{◌≡◌, ℕ, ◌<◌, ◌≤◌, List, [], ◌∷◌, ◌++◌, Bool, map, length, nat_eq, slice_index_or, if◌then◌else◌}
use Rattle.std.specs.List.{AllByRecursion, IsDistinct, list_any, list_all}
use Rattle.std.specs.Str.{bytes_eq}
use Rattle.std.specs.Cmp.Lexicographic.{pointwise}
use Rattle.tp_task.specs.Words.{Words}

-- the names at these numbers
abbrev pub named : List (List ℕ) → List ℕ → Words
named names label = map (λ i. slice_index_or names i []) label

-- what is known, and then the label if it is new
abbrev pub with_label : List (List ℕ) → List ℕ → List (List ℕ)
with_label known l = if list_any (pointwise nat_eq l) known then known else known ++ l ∷ []

-- more stands after what stood there
abbrev pub Grows : {A : Type 0} → List A → List A → Type 0
Grows {A} old new = (more : List A) × (new ≡ old ++ more)

-- each number has a name
abbrev pub AreNamed : ℕ → List ℕ → Type 0
AreNamed names label = AllByRecursion (λ i. i < names) label

-- whether each of these words is a name
abbrev pub are_known : List (List ℕ) → Words → Bool
are_known names words = list_all (λ w. list_any (bytes_eq w) names) words

-- No name has two numbers, each label's numbers have names, and there are no more atoms and fluents than there may be.
pub record IsNumbering (names atoms fluents actions : List (List ℕ)) (most : ℕ) : Type 0 where
  pub distinct : IsDistinct bytes_eq names
  pub atoms_named : AllByRecursion (AreNamed (length names)) atoms
  pub fluents_named : AllByRecursion (AreNamed (length names)) fluents
  pub actions_named : AllByRecursion (AreNamed (length names)) actions
  pub few_atoms : length atoms ≤ most
  pub few_fluents : length fluents ≤ most
