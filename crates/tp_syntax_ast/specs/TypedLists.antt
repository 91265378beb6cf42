-- Typed lists: items, of which runs end in '-' and a type.
use Rattle.std.specs.Prelude.{List, [], ◌∷◌, ◌++◌, map, Bool, true, false, ◌&&◌, ◌||◌, not, codes, if◌then◌else◌, Option, Some, None, option_map}
use Rattle.std.specs.List.{list_all, list_any}
use Rattle.std.specs.Str.{bytes_eq}
use Rattle.std.specs.Option.{is_some}
use Rattle.tp_text.specs.Shapes.{Shape, leaf, node, Shapes, no_shapes, shape}
use Rattle.tp_syntax_ast.specs.Gives.{◌>>=◌, provided}
use Rattle.tp_syntax_ast.specs.Words.{is_word}
use Rattle.tp_syntax_ast.specs.Terms.{name_of, variable_of}
use Rattle.tp_syntax_ast.specs.Symbols.{Name, Declared, Parent, parent_of}
use Rattle.tp_syntax_ast.specs.declared.words.Items.{Items}
use Rattle.tp_syntax_ast.specs.declared.words.Items.TheVariants.{Variables, Names}

unfoldable pub is_dash : Shape → Bool
is_dash (leaf w) = bytes_eq w (codes "-")
is_dash (node ss) = false

abbrev pub begins_dash : Shapes → Bool
begins_dash no_shapes = false
begins_dash (shape s ss) = is_dash s

unfoldable pub item_at : Items → Shape → Option Name
item_at k (node ss) = None
item_at Variables (leaf w) = variable_of w
item_at Names (leaf w) = name_of w

unfoldable pub name_at : Shape → Option Name
name_at (leaf w) = name_of w
name_at (node ss) = None

unfoldable pub names_of : Shapes → Option (List Name)
names_of no_shapes = Some []
names_of (shape s ss) = name_at s >>= λ n. option_map (λ ns. n ∷ ns) (names_of ss)

unfoldable pub is_either : Shape → Bool
is_either (leaf w) = is_word (codes "either") w
is_either (node ss) = false

abbrev pub some_of : List Name → Option (List Name)
some_of [] = None
some_of (n ∷ ns) = Some (n ∷ ns)

-- (either T ..), with a type or more
unfoldable pub either_of : Shapes → Option (List Name)
either_of no_shapes = None
either_of (shape s ss) = if is_either s then (names_of ss >>= some_of) else None

-- the types of variables may be several; others have one
unfoldable pub type_at : Items → Shape → Option (List Name)
type_at k (leaf w) = option_map (λ n. n ∷ []) (name_of w)
type_at Variables (node ss) = either_of ss
type_at Names (node ss) = None

-- the items, and the types of those that would stand directly before them
abbrev pub Typing : Type 0
Typing = List Declared × List Name

abbrev pub given : List Name → Name → Declared
given ts n = record { name = n; types = ts }

abbrev pub joined : Name → Typing → Typing
joined v r = (given r.1 v ∷ r.0, r.1)

-- a run may not be empty
abbrev pub unless : Bool → Option Typing → Option Typing
unless true o = None
unless false o = o

unfoldable mutual
  pub typing_of : Items → Shapes → Option Typing
  typing_of k no_shapes = Some ([], codes "object" ∷ [])
  typing_of k (shape s ss) = elim (is_dash s) [
    | true ↦ after_dash k ss
    | false ↦ item_at k s >>= λ v. option_map (joined v) (typing_of k ss)
  ]

  pub after_dash : Items → Shapes → Option Typing
  after_dash k no_shapes = None
  after_dash k (shape t ss) =
      type_at k t >>= λ ts. option_map (λ r. (r.0, ts)) (unless (begins_dash ss) (typing_of k ss))

abbrev pub run_of : Items → Shapes → Option Typing
run_of k ss = unless (begins_dash ss) (typing_of k ss)

unfoldable pub typed_list : Items → Shapes → Option (List Declared)
typed_list k ss = option_map (λ r. r.0) (run_of k ss)

-- for loops: items that wait for their type stand before the rest
abbrev pub waiting : Items → List Name → Shapes → Option Typing
waiting k [] ss = run_of k ss
waiting k (n ∷ ns) ss = typing_of k ss

abbrev pub outcome : List Declared → List Name → Option Typing → Option (List Declared)
outcome done ns o = option_map (λ r. done ++ (map (given r.1) ns ++ r.0)) o

-- no name stands twice
abbrev pub has_twice : List Name → Bool
has_twice [] = false
has_twice (n ∷ ns) = list_any (bytes_eq n) ns || has_twice ns

abbrev pub is_type : List Parent → Name → Bool
is_type types t = bytes_eq t (codes "object") || is_some (parent_of t types)

-- each is named once, and of types that are declared
abbrev pub are_declared : List Parent → List Declared → Bool
are_declared types ds =
    not (has_twice (map (λ d. d.name) ds)) && list_all (λ d. list_all (is_type types) d.types) ds

-- VARS
unfoldable pub parameters_of : List Parent → Shapes → Option (List Declared)
parameters_of types ss = typed_list Variables ss >>= λ vs.
    provided
    (are_declared types vs && not (list_any (λ v. bytes_eq v.name (codes "?duration")) vs)) vs

-- (VARS)
abbrev pub parameters_at : List Parent → Shape → Option (List Declared)
parameters_at types (leaf w) = None
parameters_at types (node ss) = parameters_of types ss
