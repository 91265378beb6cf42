-- Names, terms and atoms, and what spells them.
use Rattle.std.specs.Prelude.{ℕ, List, [], ◌∷◌, map, Bool, false, ◌&&◌, ◌||◌, ◌==◌, if◌then◌else◌, Option, Some, None, option_map, string_bytes}
use Rattle.std.specs.List.{list_all}
use Rattle.std.specs.Char.{is_ascii_alphabetic, is_ascii_alphanumeric}
use Rattle.tp_text.specs.Shapes.{Shape, leaf, node, Shapes, no_shapes, shape}
use Rattle.tp_text.specs.Trees.{shape_of, shapes_of}
use Rattle.tp_text.specs.declared.tree.Tree.{Tree}
use Rattle.tp_syntax_ast.specs.Gives.{◌>>=◌}
use Rattle.tp_syntax_ast.specs.Words.{lower}
use Rattle.tp_syntax_ast.specs.declared.term.Term.{Term}
use Rattle.tp_syntax_ast.specs.declared.term.Atom.{Atom}
use Rattle.tp_syntax_ast.specs.declared.term.Term.TheVariants as terms

pub data Argument : Type 0 where
  object : List ℕ → Argument
  variable : List ℕ → Argument

pub record Fact : Type 0 where
  pub name : List ℕ
  pub arguments : List Argument

abbrev pub term_view : Term → Argument
term_view (terms.Object s) = object (string_bytes s)
term_view (terms.Variable s) = variable (string_bytes s)

abbrev pub atom_view : Atom → Fact
atom_view a = record { name = string_bytes a.name; arguments = map term_view a.terms.items }

-- trees as their shapes
abbrev pub shapes : List Tree → Shapes
shapes ts = shapes_of (map shape_of ts)

-- a letter, and then letters, digits, '-' and '_'
abbrev pub is_inner : ℕ → Bool
is_inner b = is_ascii_alphanumeric b || (b == 45 || b == 95)

abbrev pub is_name : List ℕ → Bool
is_name [] = false
is_name (b ∷ bs) = is_ascii_alphabetic b && list_all is_inner bs

-- the name that a word is
unfoldable pub name_of : List ℕ → Option (List ℕ)
name_of w = if is_name w then Some (lower w) else None

-- '?' and a name
abbrev pub is_variable : List ℕ → Bool
is_variable [] = false
is_variable (b ∷ bs) = b == 63 && is_name bs

-- the variable that a word is, with its '?'
unfoldable pub variable_of : List ℕ → Option (List ℕ)
variable_of w = if is_variable w then Some (lower w) else None

unfoldable pub term_of : List ℕ → Option Argument
term_of w = if is_variable w then Some (variable (lower w)) else option_map object (name_of w)

-- a word that is a term
unfoldable pub term_at : Shape → Option Argument
term_at (leaf w) = term_of w
term_at (node ss) = None

-- the terms that words are, one after another
unfoldable pub terms_of : Shapes → Option (List Argument)
terms_of no_shapes = Some []
terms_of (shape s ss) = term_at s >>= λ t. option_map (λ ts. t ∷ ts) (terms_of ss)
