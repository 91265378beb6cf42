-- Static conditions of an action, and the checks of a binding that they make.
use Rattle.std.specs.Prelude.{◌≡◌, ℕ, ◌+◌, Bool, true, false, ◌||◌, List, [], ◌∷◌, map, take, length, if◌then◌else◌, Option, Some, None}
use Rattle.std.specs.List.{AllByRecursion, list_all}
use Rattle.std.specs.Str.{bytes_eq}
use Rattle.tp_syntax_ast.specs.Symbols.{Name, Declared}
use Rattle.tp_syntax_ast.specs.Terms.{Argument, object, variable, Fact, term_view}
use Rattle.tp_syntax_ast.specs.Actions.{Action}
use Rattle.tp_syntax_ast.specs.Problems.{Initial}
use Rattle.tp_ground_bindings.specs.Bindings.{bound, object_for, words_in}
use Rattle.tp_ground.specs.Initially.{initial_in, is_initially_true}
use Rattle.tp_ground_laws.specs.Needed.{needed, is_added}
use Rattle.tp_ground_laws.specs.WholeTasks.{may_be_added}
use Rattle.tp_ground_joins.specs.Keys.{names_at}
use Rattle.tp_ground_joins.specs.Checks.{allows, all_allow}
use Rattle.tp_ground_joins.specs.Walks.{IsIn}
use Rattle.tp_ground_joins.specs.declared.checks.Check.{Check}
use Rattle.tp_ground_joins.specs.Facts.{keyed_row, facts_of}
use Rattle.tp_ground_joins.specs.declared.levels.Static.{Static}

-- each atom that the action needs under a binding is one that an effect may add, or is true at first
abbrev pub may_be : List Action → List Initial → Action → List Name → Bool
may_be as_ is a objects =
    list_all (λ f. may_be_added as_ (words_in (bound a.parameters objects) f) || is_initially_true (map initial_in is) (words_in (bound a.parameters objects) f)) (needed a.body)

abbrev pub arguments_of : Static → List Argument
arguments_of s = map term_view s.terms.now

abbrev pub rows_of : Static → List (List Name)
rows_of s = map keyed_row s.rows.items

-- the atom is one that no effect adds, with the rows for which it is true at first
pub record IsStatic (as_ : List Action) (is : List Initial) (f : Fact) (s : Static) : Type 0 where
  pub arguments : arguments_of s ≡ f.arguments
  pub rows : rows_of s ≡ facts_of f.name is
  pub never : is_added as_ f.name ≡ false

-- under a binding the atom is one of its rows
abbrev pub Holds : List Declared → List Name → Static → Type 0
Holds ps objects s = IsIn (map (object_for (bound ps objects)) (arguments_of s)) (rows_of s)

-- Each of these holds under each binding under which the action may happen.
abbrev pub AreStatic : List Action → List Initial → Action → List Static → Type 0
AreStatic as_ is a ss =
    (objects : List Name)
    → may_be as_ is a objects ≡ true → AllByRecursion (Holds a.parameters objects) ss

-- the place of the first parameter of a name, counted from some number on
abbrev pub place_from : ℕ → List Declared → Name → Option ℕ
place_from k [] v = None
place_from k (p ∷ ps) v = if bytes_eq p.name v then Some k else place_from (k + 1) ps v

abbrev pub place_of : List Declared → Argument → Option ℕ
place_of ps (object n) = None
place_of ps (variable v) = place_from 0 ps v

-- In these columns the atom has what stands at these places, which are among the first so many.
abbrev pub AreSame : List Declared → List Argument → ℕ → List ℕ → List ℕ → Type 0
AreSame ps args many columns places =
    (objects : List Name)
    → length objects ≡ length ps
    → names_at columns (map (object_for (bound ps objects)) args) ≡ names_at places (take many objects)

-- The check allows the first so many objects of each binding under which the atom is one of its rows.
abbrev pub IsFair : List Declared → Static → ℕ → Check → Type 0
IsFair ps s many c =
    (objects : List Name)
    → length objects ≡ length ps → Holds ps objects s → allows c (take many objects) ≡ true

abbrev pub AreFair : List Declared → List Static → ℕ → List Check → Type 0
AreFair ps ss many cs =
    (objects : List Name)
    → length objects ≡ length ps
    → AllByRecursion (Holds ps objects) ss → all_allow cs (take many objects) ≡ true

-- one name of each list
abbrev pub Picks : List (List Name) → List Name → Type 0
Picks [] [] = Unit {0}
Picks [] (n ∷ ns) = ⊥
Picks (l ∷ ls) [] = ⊥
Picks (l ∷ ls) (n ∷ ns) = IsIn n l × Picks ls ns
