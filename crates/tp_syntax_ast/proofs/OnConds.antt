use Rattle.std.proofs.Common.{◌≡◌, ℕ, ◌<◌, ◌≤◌, ◌-◌, List, [], ◌∷◌, ◌++◌, length, take, drop, get_or, map, Option, Some, None, option_map, Vec, Global, refl, sym, ap, ◌∙◌, rules, arith}
use Rattle.std.proofs.lemmas.List.{take_rest}
use Rattle.tp_text.specs.Shapes.{leaf, node, Shapes, no_shapes, shape}
use Rattle.tp_text.specs.Trees.{shape_of}
use Rattle.tp_text.specs.declared.tree.Tree.{Tree}
use Rattle.tp_syntax_ast.specs.Gives.{◌>>=◌}
use Rattle.tp_syntax_ast.specs.Terms.{shapes}
use Rattle.tp_syntax_ast.specs.Symbols.{Declared, Symbols}
use Rattle.tp_syntax_ast.proofs.Loops.{IsEach}
use Rattle.tp_syntax_ast.specs.Words.{cond_word_of}
use Rattle.tp_syntax_ast.specs.TypedLists.{parameters_at}
use Rattle.tp_syntax_ast.specs.Conditions.{Condition, all_of, no_conditions, conditions, kind_of, combined, bound, simple, condition_of, conditions_of, bound_condition, only_condition}
use Rattle.tp_syntax_ast.specs.CondViews.{cond_view}
use Rattle.tp_syntax_ast.specs.declared.cond.Cond.{Cond, the_lemmas}
use Rattle.tp_syntax_ast.specs.declared.words.CondWord.{CondWord}
use Rattle.tp_syntax_ast.specs.declared.words.CondKind.{CondKind}
use Rattle.tp_syntax_ast.specs.declared.words.CondKind.TheVariants.{Joined, Bound, Simple}
use Rattle.tp_syntax_ast.proofs.OnLists.{peel}
use Rattle.tp_syntax_ast.specs.declared.cond.Cond as conds

pub and_none : (v : Vec Cond Global) → v.items ≡ [] → all_of no_conditions ≡ cond_view (conds.And v)
and_none v none =
    let seen : cond_view (conds.And v) ≡ all_of (conditions (map cond_view v.items)) = search (rules, the_lemmas) in
    sym (seen ∙ ap (λ (cs : List Cond). all_of (conditions (map cond_view cs))) none)

module _ (σ : Symbols) (scope : List Declared) where
  pub each_condition : IsEach (λ (t : Tree). condition_of σ scope (shape_of t)) (λ ts. conditions_of σ scope (shapes ts))
  unfolding condition_of
  each_condition = record { none = refl; more = λ x xs. refl }

  pub at_word : (w : List ℕ) → condition_of σ scope (leaf w) ≡ None
  unfolding condition_of
  at_word w = refl

  pub at_nothing : condition_of σ scope (node no_shapes) ≡ Some (all_of no_conditions)
  unfolding condition_of
  at_nothing = refl

  pub at_list : (ss rest : Shapes) → condition_of σ scope (node (shape (node ss) rest)) ≡ None
  unfolding condition_of
  at_list ss rest = refl

  by_kind : (w : List ℕ) (rest : Shapes) (k : CondKind) → kind_of (cond_word_of w) ≡ k → condition_of σ scope (node (shape (leaf w) rest)) ≡ elim k as (λ v. Option Condition) [ Joined ↦ conditions_of σ scope rest >>= combined (cond_word_of w) | Bound ↦ bound_condition σ scope (cond_word_of w) rest | Simple ↦ simple σ scope (cond_word_of w) w rest ]
  unfolding condition_of
  by_kind w rest k e = ap (λ (v : CondKind). elim v as (λ u. Option Condition) [ Joined ↦ conditions_of σ scope rest >>= combined (cond_word_of w) | Bound ↦ bound_condition σ scope (cond_word_of w) rest | Simple ↦ simple σ scope (cond_word_of w) w rest ]) e

  pub at_joined : (w : List ℕ) (rest : Shapes) (h : CondWord) (k : CondKind) → h ≡ cond_word_of w → k ≡ kind_of h → k ≡ Joined → condition_of σ scope (node (shape (leaf w) rest)) ≡ (conditions_of σ scope rest >>= combined h)
  at_joined w rest h k is kind joined = by_kind w rest Joined (ap kind_of (sym is) ∙ sym kind ∙ joined) ∙ ap (λ (g : CondWord). conditions_of σ scope rest >>= combined g) (sym is)

  pub at_bound : (w : List ℕ) (rest : Shapes) (h : CondWord) (k : CondKind) → h ≡ cond_word_of w → k ≡ kind_of h → k ≡ Bound → condition_of σ scope (node (shape (leaf w) rest)) ≡ bound_condition σ scope h rest
  at_bound w rest h k is kind joined = by_kind w rest Bound (ap kind_of (sym is) ∙ sym kind ∙ joined) ∙ ap (λ (g : CondWord). bound_condition σ scope g rest) (sym is)

  pub at_simple : (w : List ℕ) (rest : Shapes) (h : CondWord) (k : CondKind) → h ≡ cond_word_of w → k ≡ kind_of h → k ≡ Simple → condition_of σ scope (node (shape (leaf w) rest)) ≡ simple σ scope h w rest
  at_simple w rest h k is kind joined = by_kind w rest Simple (ap kind_of (sym is) ∙ sym kind ∙ joined) ∙ ap (λ (g : CondWord). simple σ scope g w rest) (sym is)

  pub bound_none : (h : CondWord) (xs : List Tree) → length xs < 1 → bound_condition σ scope h (shapes xs) ≡ None
  unfolding condition_of
  bound_none h [] lt = refl
  bound_none h (x ∷ xs) lt = absurd (omega arith)

  pub bound_first : (h : CondWord) (xs : List Tree) (list : Tree) → 1 ≤ length xs → list ≡ get_or xs 0 list → bound_condition σ scope h (shapes xs) ≡ (parameters_at σ.types (shape_of list) >>= λ vs. option_map (bound h vs) (only_condition σ (vs ++ scope) (shapes (take (length xs - 1) (drop 1 xs)))))
  unfolding condition_of
  bound_first h xs list le is = ap (bound_condition σ scope h) (peel xs list le is)

  pub only_none : (ys : List Tree) → length ys < 1 → only_condition σ scope (shapes ys) ≡ None
  unfolding condition_of
  only_none [] lt = refl
  only_none (y ∷ ys) lt = absurd (omega arith)

  pub only_one : (ys : List Tree) (tree : Tree) → 1 ≤ length ys → tree ≡ get_or ys 0 tree → length (take (length ys - 1) (drop 1 ys)) ≡ 0 → only_condition σ scope (shapes ys) ≡ condition_of σ scope (shape_of tree)
  unfolding condition_of
  only_one [] tree le is none = absurd (omega arith)
  only_one (y ∷ []) tree le is none = ap (λ (t : Tree). condition_of σ scope (shape_of t)) (sym is)
  only_one (y ∷ z ∷ zs) tree le is none = absurd (no_more z zs none) where
    no_more : (z : Tree) (zs : List Tree) → length (take (length (y ∷ z ∷ zs) - 1) (z ∷ zs)) ≡ 0 → ⊥
    no_more z zs e = omega (arith, e, ap length (take_rest (y ∷ z ∷ zs) 1))

  pub only_many : (ys : List Tree) → (length (take (length ys - 1) (drop 1 ys)) ≡ 0 → ⊥) → only_condition σ scope (shapes ys) ≡ None
  unfolding condition_of
  only_many [] more = refl
  only_many (y ∷ []) more = absurd (more refl)
  only_many (y ∷ z ∷ zs) more = refl
