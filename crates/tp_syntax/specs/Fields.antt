-- An action's fields as they are read.
use Rattle.std.specs.Prelude.{List, Bool, ◌&&◌, Option, None}
use Rattle.std.specs.List.{list_all}
use Rattle.std.specs.Borrow.{Bor}
use Rattle.tp_text.specs.declared.tree.Tree.{Tree}
use Rattle.tp_text.specs.Shapes.{Shape, leaf, node, Shapes}
use Rattle.tp_text.specs.Trees.{shape_of}
use Rattle.tp_syntax_ast.specs.Gives.{◌>>=◌, provided}
use Rattle.tp_syntax_ast.specs.Words.{key_of}
use Rattle.tp_syntax_ast.specs.Actions as actions
use Rattle.tp_syntax_ast.specs.Actions.{field, fields_of, each_once, is_field_of}
use Rattle.tp_syntax_ast.specs.Effects.{Constraint, constraint_of}
use Rattle.tp_syntax_ast.specs.Symbols.{Declared, Symbols}
use Rattle.tp_syntax_ast.specs.declared.words.Key.TheVariants as keys
use Rattle.tp_syntax_ast.specs.declared.words.Key.{Key}
use Rattle.tp_syntax.specs.declared.keyed.Keyed.{Keyed}

abbrev pub field_view : Keyed Key (Bor Tree) → actions.Field
field_view f = record { key = f.kind; value = shape_of f.body.now }

-- the key that a word is
unfoldable pub key_at : Shape → Option Key
key_at (leaf w) = key_of w
key_at (node ss) = None

-- of an action, or of a durative one
abbrev pub are_fields_of : Bool → List actions.Field → Bool
are_fields_of lasts fs = list_all (λ f. is_field_of lasts f.key) fs

-- each at most once, of an action or of a durative one
abbrev pub checked_fields : Bool → Shapes → Option (List actions.Field)
checked_fields lasts ss =
    fields_of ss >>= λ fs. provided (each_once fs && are_fields_of lasts fs) fs

-- the duration constraint, which may not be missing
abbrev pub duration_field : Symbols → List Declared → List actions.Field → Option Constraint
duration_field σ vs fs = field keys.Duration fs >>= constraint_of σ vs
