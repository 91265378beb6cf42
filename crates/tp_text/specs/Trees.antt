-- What a `Tree` shows: its words and lists.
use Rattle.std.specs.Prelude.{◌≡◌, ℕ, ◌+◌, ◌<◌, ◌≤◌, List, [], ◌∷◌, ◌++◌, length, Ok, ◌⊎◌}
use Rattle.std.specs.List.{flat_map}
use Rattle.tp_text.specs.Lexemes.{Lexeme, left, right, word, Placed, placed, with_front}
use Rattle.tp_text.specs.Tokens.{lexeme_of, max_text, IsBad}
use Rattle.tp_text.specs.Shapes.{Shape, leaf, node, Shapes, no_shapes, shape, written, lexemes_only, Spells, nesting}
use Rattle.tp_text.specs.declared.fault.TextFault.{TextFault}
use Rattle.tp_text.specs.declared.fault.TextFault.TheVariants as faults
use Rattle.tp_text.specs.declared.lexing.Next.{Next}
use Rattle.tp_text.specs.declared.tree.Frame.{Frame}
use Rattle.tp_text.specs.declared.tree.Builder.{Builder}
use Rattle.tp_text.specs.declared.tree.TokenKind.{TokenKind}
use Rattle.tp_text.specs.declared.tree.TokenKind.TheVariants.{Left, Right, Word}
use Rattle.tp_text.specs.declared.tree.Tree.{Tree, fold-Tree}
use Rattle.tp_text.specs.declared.tree.Tree.TheOpen.{Tree-F}

abbrev pub shapes_of : List Shape → Shapes
shapes_of [] = no_shapes
shapes_of (s ∷ ss) = shape s (shapes_of ss)

-- one level, with each tree inside already seen as its shape
abbrev pub shape_step : Tree-F Shape → Shape
shape_step (Tree-F.Word t) = leaf t.text.now
shape_step (Tree-F.List items span) = node (shapes_of items.items)

abbrev pub shape_of : Tree → Shape
shape_of = fold-Tree Shape shape_step

abbrev pub tree_written : Tree → List Lexeme
tree_written t = written (shape_of t)

abbrev pub trees_written : List Tree → List Lexeme
trees_written ts = flat_map tree_written ts

-- lists that are open, the outermost first
abbrev pub frames_written : List Frame → List Lexeme
frames_written [] = []
frames_written (f ∷ fs) = trees_written f.items.items ++ left ∷ frames_written fs

-- how often a parenthesis stands among lexemes
abbrev pub lefts : List Lexeme → ℕ
lefts [] = 0
lefts (left ∷ ms) = lefts ms + 1
lefts (right ∷ ms) = lefts ms
lefts (word w ∷ ms) = lefts ms

abbrev pub rights : List Lexeme → ℕ
rights [] = 0
rights (left ∷ ms) = rights ms
rights (right ∷ ms) = rights ms + 1
rights (word w ∷ ms) = rights ms

-- a list begins where 64 are open, or more
abbrev pub IsDeep : List Lexeme → Type 0
IsDeep ms =
    (front : List Lexeme)
    × (rest : List Lexeme)
    × (ms ≡ front ++ left ∷ rest)
    × (rights front + 64 ≤ lefts front)

-- the lexemes that a tree writes are so exactly if it has a list inside 64 others
abbrev pub DeepIsNested : Type 0
DeepIsNested =
    (s : Shape) → (IsDeep (written s) → 64 < nesting s) × (64 < nesting s → IsDeep (written s))

-- no tree writes these lexemes
abbrev pub IsNoTree : List Lexeme → Type 0
IsNoTree ms = (s : Shape) → written s ≡ ms → ⊥

-- when lexemes are refused
abbrev pub HasNoTree : List Lexeme → TextFault → Type 0
HasNoTree ms faults.Memory = Unit {0}
HasNoTree ms (faults.Unclosed at) = IsNoTree ms
HasNoTree ms (faults.Extra at) = IsNoTree ms
HasNoTree ms (faults.Depth at) = IsDeep ms
HasNoTree ms faults.Empty = IsNoTree ms
HasNoTree ms faults.TooLong = ⊥
HasNoTree ms (faults.BadByte at) = ⊥

-- At most one tree may stand where no list is open. Where one is, the outermost had nothing before it.
abbrev pub IsOneTree : List Frame → List Tree → Type 0
IsOneTree [] ts = length ts ≤ 1
IsOneTree (f ∷ fs) ts = f.items.items ≡ []

-- a list is open, or nothing was read
abbrev pub IsOpen : List Frame → List Tree → Type 0
IsOpen [] ts = ts ≡ []
IsOpen (f ∷ fs) ts = Unit {0}

-- the lexemes that were read
abbrev pub built : Builder → List Lexeme
built b = frames_written b.outer.items ++ trees_written b.items.items

-- after these lexemes another is refused
abbrev pub CannotGoOn : List Lexeme → Lexeme → TextFault → Type 0
CannotGoOn ms m faults.Memory = Unit {0}
CannotGoOn ms m (faults.Extra at) = (more : List Lexeme) → IsNoTree (ms ++ m ∷ more)
CannotGoOn ms m (faults.Depth at) = (m ≡ left) × (rights ms + 64 ≤ lefts ms)
CannotGoOn ms m (faults.Unclosed at) = ⊥
CannotGoOn ms m faults.Empty = ⊥
CannotGoOn ms m faults.TooLong = ⊥
CannotGoOn ms m (faults.BadByte at) = ⊥

-- Behind the lexemes so far the next one can't be read on; or a byte behind it may not stand there.
abbrev pub IsStuck : List Lexeme → Next → TextFault → Type 0
IsStuck ms n e =
    IsBad n.at n.rest.now e
    ⊎ (CannotGoOn ms (lexeme_of n.token.text.now) e
    × ((ps : List Placed) × (placed n.at n.rest.now ≡ Ok ps)))

-- The lexemes so far and those of the bytes that are left are those of the text.
abbrev pub IsReadTo : List ℕ → List Lexeme → ℕ → List ℕ → Type 0
IsReadTo text ms at rest =
    (ps : List Placed) × (lexemes_only ps ≡ ms) × (with_front ps (placed at rest) ≡ placed 0 text)

-- a list may begin only where fewer than 64 are open
abbrev pub HasRoom : List Lexeme → Lexeme → Type 0
HasRoom ms left = lefts ms < rights ms + 64
HasRoom ms right = Unit {0}
HasRoom ms (word w) = Unit {0}

abbrev pub kind_lexeme : TokenKind → List ℕ → Lexeme
kind_lexeme Left text = left
kind_lexeme Right text = right
kind_lexeme Word text = word text

-- no tree is spelled
abbrev pub SpellsNothing : List ℕ → Type 0
SpellsNothing text = (s : Shape) → Spells text s → ⊥

-- when a text is refused
abbrev pub IsRefused : List ℕ → TextFault → Type 0
IsRefused text faults.Memory = Unit {0}
IsRefused text faults.TooLong = max_text < length text
IsRefused text (faults.BadByte at) = SpellsNothing text
IsRefused text (faults.Unclosed at) = SpellsNothing text
IsRefused text (faults.Extra at) = SpellsNothing text
IsRefused text (faults.Depth at) =
    (ps : List Placed) × (placed 0 text ≡ Ok ps) × IsDeep (lexemes_only ps)
IsRefused text faults.Empty = SpellsNothing text
