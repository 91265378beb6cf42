use Rattle.std.proofs.Common.{◌≡◌, ℕ, ◌<◌, ◌≤◌, ◌-◌, List, [], ◌∷◌, length, take, drop, get_or, Bool, true, false, map, Option, Some, None, option_map, Vec, Global, refl, sym, ap, ◌∙◌, rules, arith}
use Rattle.std.proofs.lemmas.List.{take_rest}
use Rattle.tp_text.specs.Shapes.{leaf, node, Shapes, no_shapes, shape}
use Rattle.tp_text.specs.Trees.{shape_of}
use Rattle.tp_text.specs.declared.tree.Tree.{Tree}
use Rattle.tp_syntax_ast.specs.Terms.{shapes}
use Rattle.tp_syntax_ast.specs.Symbols.{Declared, Symbols}
use Rattle.tp_syntax_ast.specs.Words.{constraint_form_of}
use Rattle.tp_syntax_ast.specs.Effects.{Constraint, all_constraints, no_constraints, constraints_in, limited, is_start, constraint_of, constraints_of, start_constraint, only_constraint}
use Rattle.tp_syntax_ast.specs.ConstraintViews.{constraint_view}
use Rattle.tp_syntax_ast.specs.declared.constraint.DurationRule as the_constraints
use Rattle.tp_syntax_ast.specs.declared.constraint.DurationRule.{DurationRule, the_lemmas}
use Rattle.tp_syntax_ast.specs.declared.words.ConstraintForm.{ConstraintForm}
use Rattle.tp_syntax_ast.specs.declared.words.ConstraintForm.TheVariants.{And, At, Limit}
use Rattle.tp_syntax_ast.proofs.Loops.{IsEach}
use Rattle.tp_syntax_ast.proofs.OnLists.{peel}

pub and_view : (v : Vec DurationRule Global) → constraint_view (the_constraints.And v) ≡ all_constraints (constraints_in (map constraint_view v.items))
and_view v = search (rules, the_lemmas)

pub and_none : (v : Vec DurationRule Global) → v.items ≡ [] → all_constraints no_constraints ≡ constraint_view (the_constraints.And v)
and_none v none = sym (and_view v ∙ ap (λ (rs : List DurationRule). all_constraints (constraints_in (map constraint_view rs))) none)

module _ (σ : Symbols) (scope : List Declared) where
  pub each_constraint : IsEach (λ (t : Tree). constraint_of σ scope (shape_of t)) (λ ts. constraints_of σ scope (shapes ts))
  unfolding constraint_of
  each_constraint = record { none = refl; more = λ x xs. refl }

  pub at_word : (w : List ℕ) → constraint_of σ scope (leaf w) ≡ None
  unfolding constraint_of
  at_word w = refl

  pub at_nothing : constraint_of σ scope (node no_shapes) ≡ Some (all_constraints no_constraints)
  unfolding constraint_of
  at_nothing = refl

  pub at_list : (ss rest : Shapes) → constraint_of σ scope (node (shape (node ss) rest)) ≡ None
  unfolding constraint_of
  at_list ss rest = refl

  pub by_form : (w : List ℕ) (rest : Shapes) (j k : ConstraintForm) → j ≡ constraint_form_of w → j ≡ k → constraint_of σ scope (node (shape (leaf w) rest)) ≡ elim k as (λ v. Option Constraint) [ And ↦ option_map (λ rs. all_constraints (constraints_in rs)) (constraints_of σ scope rest) | At ↦ start_constraint σ scope rest | Limit ↦ limited σ scope w rest ]
  unfolding constraint_of
  by_form w rest j k is e = ap (λ (v : ConstraintForm). elim v as (λ u. Option Constraint) [ And ↦ option_map (λ rs. all_constraints (constraints_in rs)) (constraints_of σ scope rest) | At ↦ start_constraint σ scope rest | Limit ↦ limited σ scope w rest ]) (sym is ∙ e)

  pub start_none : (xs : List Tree) → length xs < 1 → start_constraint σ scope (shapes xs) ≡ None
  unfolding constraint_of
  start_none [] lt = refl
  start_none (x ∷ xs) lt = absurd (omega arith)

  pub start_first : (xs : List Tree) (moment : Tree) (b : Bool) → 1 ≤ length xs → moment ≡ get_or xs 0 moment → is_start (shape_of moment) ≡ b → start_constraint σ scope (shapes xs) ≡ elim b as (λ v. Option Constraint) [ true ↦ only_constraint σ scope (shapes (take (length xs - 1) (drop 1 xs))) | false ↦ None ]
  unfolding constraint_of
  start_first xs moment b le is starts =
      ap (start_constraint σ scope) (peel xs moment le is)
      ∙ ap (λ (v : Bool). elim v as (λ u. Option Constraint) [ true ↦ only_constraint σ scope (shapes (take (length xs - 1) (drop 1 xs))) | false ↦ None ]) starts

  pub only_none : (ys : List Tree) → length ys < 1 → only_constraint σ scope (shapes ys) ≡ None
  unfolding constraint_of
  only_none [] lt = refl
  only_none (y ∷ ys) lt = absurd (omega arith)

  pub only_one : (ys : List Tree) (tree : Tree) → 1 ≤ length ys → tree ≡ get_or ys 0 tree → length (take (length ys - 1) (drop 1 ys)) ≡ 0 → only_constraint σ scope (shapes ys) ≡ constraint_of σ scope (shape_of tree)
  unfolding constraint_of
  only_one [] tree le is none = absurd (omega arith)
  only_one (y ∷ []) tree le is none = ap (λ (t : Tree). constraint_of σ scope (shape_of t)) (sym is)
  only_one (y ∷ z ∷ zs) tree le is none = absurd (no_more z zs none) where
    no_more : (z : Tree) (zs : List Tree) → length (take (length (y ∷ z ∷ zs) - 1) (z ∷ zs)) ≡ 0 → ⊥
    no_more z zs e = omega (arith, e, ap length (take_rest (y ∷ z ∷ zs) 1))

  pub only_many : (ys : List Tree) → (length (take (length ys - 1) (drop 1 ys)) ≡ 0 → ⊥) → only_constraint σ scope (shapes ys) ≡ None
  unfolding constraint_of
  only_many [] more = refl
  only_many (y ∷ []) more = absurd (more refl)
  only_many (y ∷ z ∷ zs) more = refl
