-- Trees of words, without places, and what a text spells.
use Rattle.std.specs.Prelude.{◌≡◌, ℕ, ◌+◌, max, List, [], ◌∷◌, ◌++◌, map, Ok}
use Rattle.tp_text.specs.Lexemes.{Lexeme, left, right, word, Placed, placed}

mutual
  pub data Shape : Type 0 where
    leaf : List ℕ → Shape
    node : Shapes → Shape

  pub data Shapes : Type 0 where
    no_shapes : Shapes
    shape : Shape → Shapes → Shapes

-- a word writes itself; a list writes '(', its members, ')'
abbrev mutual
  pub written : Shape → List Lexeme
  written (leaf w) = word w ∷ []
  written (node ss) = left ∷ (all_written ss ++ right ∷ [])

  pub all_written : Shapes → List Lexeme
  all_written no_shapes = []
  all_written (shape s ss) = written s ++ all_written ss

-- how many lists lie in one another at the most
abbrev mutual
  pub nesting : Shape → ℕ
  nesting (leaf w) = 0
  nesting (node ss) = most_nesting ss + 1

  pub most_nesting : Shapes → ℕ
  most_nesting no_shapes = 0
  most_nesting (shape s ss) = max (nesting s) (most_nesting ss)

abbrev pub lexemes_only : List Placed → List Lexeme
lexemes_only ps = map (λ p. p.lexeme) ps

-- the text's lexemes are those that the tree writes
abbrev pub Spells : List ℕ → Shape → Type 0
Spells text s = (ps : List Placed) × (placed 0 text ≡ Ok ps) × (lexemes_only ps ≡ written s)

-- a text spells at most one tree
abbrev pub SpellsOneTree : Type 0
SpellsOneTree = (text : List ℕ) (s u : Shape) → Spells text s → Spells text u → s ≡ u
