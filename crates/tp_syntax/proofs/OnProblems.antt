-- What a problem says of its initial state, by what the trees are.
use Rattle.std.proofs.Common.{◌≡◌, ℕ, List, ◌++◌, length, map, Bool, true, false, not, ◌&&◌, nat_eq, Option, Some, None, refl, sym, ap, ◌∙◌}
use Rattle.std.specs.List.{list_all}
use Rattle.std.proofs.lemmas.Bool.{eqb-true}
use Rattle.std.proofs.lemmas.List.{nil_from_length}
use Rattle.tp_text.specs.Shapes.{leaf, node, Shapes, no_shapes, shape}
use Rattle.tp_text.specs.Trees.{shape_of}
use Rattle.tp_text.specs.declared.tree.Tree.{Tree}
use Rattle.tp_syntax_ast.specs.Terms.{shapes}
use Rattle.tp_syntax_ast.specs.Gives.{◌>>=◌, provided}
use Rattle.tp_syntax_ast.specs.Symbols.{Name, Declared, Parent, Symbols, typed_view}
use Rattle.tp_syntax_ast.specs.TypedLists.{typed_list, is_type, has_twice, are_declared}
use Rattle.tp_syntax_ast.specs.Domains.{Domain, objects_in}
use Rattle.tp_syntax_ast.specs.Problems.{initial_list, initial_at, initial_of, new_objects}
use Rattle.tp_syntax_ast.specs.declared.symbols.Typed.{Typed}
use Rattle.tp_syntax_ast.specs.declared.words.Items.TheVariants.{Names}
use Rattle.tp_syntax_ast.proofs.Loops.{IsEach}

module _ (σ : Symbols) where
  pub each_initial : IsEach (λ (t : Tree). initial_at σ (shape_of t)) (λ ts. initial_of σ (shapes ts))
  unfolding initial_of
  each_initial = record { none = refl; more = λ x xs. refl }

  pub initial_word : (w : List ℕ) → initial_at σ (leaf w) ≡ None
  unfolding initial_at
  initial_word w = refl

  pub initial_nothing : initial_at σ (node no_shapes) ≡ None
  unfolding initial_at
  initial_nothing = refl

  pub initial_lists : (ss rest : Shapes) → initial_at σ (node (shape (node ss) rest)) ≡ None
  unfolding initial_at
  initial_lists ss rest = refl

  pub initial_name : (w : List ℕ) (rest : Shapes) → initial_at σ (node (shape (leaf w) rest)) ≡ initial_list σ w rest
  unfolding initial_at
  initial_name w rest = refl

-- objects are declared once each, so beside no constants they are
abbrev names : List Declared → List Name
names ds = map (λ d. d.name) ds

kept : (a b : Bool) (ds os : List Declared) → provided (a && b) ds ≡ Some os → (a ≡ true) × (ds ≡ os)
kept true true ds os h = (refl, cc)
kept true false ds os h = cc
kept false b ds os h = cc

once_in : (ts : List Parent) (o : Option (List Declared)) (os : List Declared) → (o >>= λ ds. provided (are_declared ts ds) ds) ≡ Some os → not (has_twice (names os)) ≡ true
once_in ts None os h = cc
once_in ts (Some ds) os h =
    let k = kept (not (has_twice (names ds))) (list_all (λ d. list_all (is_type ts) d.types) ds) ds os h in
    ap (λ xs. not (has_twice (names xs))) (sym k.1) ∙ k.0

once : (ts : List Parent) (ss : Shapes) (os : List Declared) → objects_in ts ss ≡ Some os → not (has_twice (names os)) ≡ true
unfolding objects_in
once ts ss os is = once_in ts (typed_list Names ss) os is

pub beside_no_constants : (d : Domain) (cs : List Typed) (ss : Shapes) (os : List Declared) → nat_eq (length cs) 0 ≡ true → d.constants ≡ map typed_view cs → objects_in d.types ss ≡ Some os → new_objects d ss ≡ Some os
unfolding new_objects
beside_no_constants d cs ss os none are is =
    ap (λ o. o >>= λ ds. provided (not (has_twice (names (d.constants ++ ds)))) ds) is
    ∙ ap (λ xs. provided (not (has_twice (names (xs ++ os)))) os) (are ∙ ap (map typed_view) (nil_from_length cs (eqb-true (length cs) 0 none)))
    ∙ ap (λ b. provided b os) (once d.types ss os is)
