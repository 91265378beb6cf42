-- The limits of texts that are read.
use Rattle.std.specs.Prelude.{ℕ, ◌≤◌, List}
use Rattle.tp_text.specs.Shapes.{Shape, Spells, nesting}

-- what the text spells has lists in so many others at most
abbrev pub NestsUpTo : List ℕ → ℕ → Type 0
NestsUpTo text most = (s : Shape) → Spells text s → nesting s ≤ most
