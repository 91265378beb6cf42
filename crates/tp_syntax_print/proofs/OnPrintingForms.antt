-- Texts of forms that hold others of their kind.
use Rattle.std.proofs.Common.{◌≡◌, ℕ, List, [], ◌∷◌, ◌++◌, codes, map, Vec, Box, Global, refl, sym, ap, ◌∙◌, append_assoc, append-nil, rules}
use Rattle.tp_text.specs.Shapes.{Shape, leaf, node}
use Rattle.tp_text.specs.Texts.{shape_text, more_text}
use Rattle.tp_syntax_ast.specs.Symbols.{typed_view}
use Rattle.tp_syntax_ast.specs.Expressions.{sum, negative, difference, product}
use Rattle.tp_syntax_ast.specs.ExprViews.{expr_view}
use Rattle.tp_syntax_ast.specs.Conditions.{negation, implies, for_all, for_some}
use Rattle.tp_syntax_ast.specs.CondViews.{cond_view}
use Rattle.tp_syntax_ast.specs.Effects.{all_constraints, constraint, constraints_in}
use Rattle.tp_syntax_ast.specs.ConstraintViews.{constraint_view}
use Rattle.tp_syntax_ast.specs.declared.expr.Expr as exprs
use Rattle.tp_syntax_ast.specs.declared.cond.Cond as conds
use Rattle.tp_syntax_ast.specs.declared.constraint.DurationRule as limits
use Rattle.tp_syntax_ast.specs.declared.symbols.Typed.{Typed}
use Rattle.tp_syntax_ast.specs.declared.words.Comparison.{Comparison}
use Rattle.tp_syntax_ast.specs.declared.words.TimeSpecifier.{TimeSpecifier}
use Rattle.tp_syntax_ast.specs.declared.words.TimeSpecifier.TheVariants.{AtStart, OverAll, AtEnd}
use Rattle.tp_syntax_print.specs.Printing.{headed, one_shape, two_shapes, typed_shapes, expression_shape, condition_shape, constraint_shape, constraint_shapes, specifier_word, specifier_place}
use Rattle.tp_syntax_print.specs.Words.{comparison_word}
use Rattle.tp_syntax_print.specs.DomainTexts.{specifier_text}
use Rattle.tp_syntax_print.proofs.OnPrinting.{two_text}

module _ {A B : Type 0} (view : A → B) (tree : B → Shape) where
  one_of : (a : A) (b : B) (w : List ℕ) (s : Shape) → view a ≡ b → tree b ≡ headed w (one_shape s) → (40 ∷ w) ++ (32 ∷ (shape_text s ++ 41 ∷ [])) ≡ shape_text (tree (view a))
  one_of a b w s is shaped =
      sym (
      ap (λ (k : B). shape_text (tree k)) is
      ∙ (ap shape_text shaped
      ∙ ap (λ (l : List ℕ). 40 ∷ l) (append_assoc w (more_text (one_shape s)) (41 ∷ []) ∙ ap (λ (l : List ℕ). w ++ (32 ∷ (l ++ 41 ∷ []))) (append-nil (shape_text s))))
      )

  two_of : (a : A) (b : B) (w : List ℕ) (s t : Shape) → view a ≡ b → tree b ≡ headed w (two_shapes s t) → (40 ∷ w) ++ (32 ∷ (shape_text s ++ (32 ∷ (shape_text t ++ 41 ∷ [])))) ≡ shape_text (tree (view a))
  two_of a b w s t is shaped =
      sym (
      ap (λ (k : B). shape_text (tree k)) is
      ∙ (ap shape_text shaped
      ∙ ap (λ (l : List ℕ). 40 ∷ l) (append_assoc w (more_text (two_shapes s t)) (41 ∷ []) ∙ ap (λ (l : List ℕ). w ++ l) (two_text s t)))
      )

pub sum_text : (e : exprs.Expr) (a b : Box exprs.Expr Global) → e ≡ exprs.Sum a b → codes "(+ " ++ (shape_text (expression_shape (expr_view a.value)) ++ (32 ∷ (shape_text (expression_shape (expr_view b.value)) ++ 41 ∷ []))) ≡ shape_text (expression_shape (expr_view e))
sum_text e a b is =
    let seen : expr_view (exprs.Sum a b) ≡ sum (expr_view a.value) (expr_view b.value) = search (rules, exprs.the_lemmas) in
    two_of expr_view expression_shape e (sum (expr_view a.value) (expr_view b.value)) (codes "+") (expression_shape (expr_view a.value)) (expression_shape (expr_view b.value)) (ap expr_view is ∙ seen) refl

pub negated_text : (e : exprs.Expr) (a : Box exprs.Expr Global) → e ≡ exprs.Negated a → codes "(-" ++ (32 ∷ (shape_text (expression_shape (expr_view a.value)) ++ 41 ∷ [])) ≡ shape_text (expression_shape (expr_view e))
negated_text e a is =
    let seen : expr_view (exprs.Negated a) ≡ negative (expr_view a.value) = search (rules, exprs.the_lemmas) in
    one_of expr_view expression_shape e (negative (expr_view a.value)) (codes "-") (expression_shape (expr_view a.value)) (ap expr_view is ∙ seen) refl

pub difference_text : (e : exprs.Expr) (a b : Box exprs.Expr Global) → e ≡ exprs.Difference a b → codes "(- " ++ (shape_text (expression_shape (expr_view a.value)) ++ (32 ∷ (shape_text (expression_shape (expr_view b.value)) ++ 41 ∷ []))) ≡ shape_text (expression_shape (expr_view e))
difference_text e a b is =
    let seen : expr_view (exprs.Difference a b) ≡ difference (expr_view a.value) (expr_view b.value) = search (rules, exprs.the_lemmas) in
    two_of expr_view expression_shape e (difference (expr_view a.value) (expr_view b.value)) (codes "-") (expression_shape (expr_view a.value)) (expression_shape (expr_view b.value)) (ap expr_view is ∙ seen) refl

pub product_text : (e : exprs.Expr) (a b : Box exprs.Expr Global) → e ≡ exprs.Product a b → codes "(* " ++ (shape_text (expression_shape (expr_view a.value)) ++ (32 ∷ (shape_text (expression_shape (expr_view b.value)) ++ 41 ∷ []))) ≡ shape_text (expression_shape (expr_view e))
product_text e a b is =
    let seen : expr_view (exprs.Product a b) ≡ product (expr_view a.value) (expr_view b.value) = search (rules, exprs.the_lemmas) in
    two_of expr_view expression_shape e (product (expr_view a.value) (expr_view b.value)) (codes "*") (expression_shape (expr_view a.value)) (expression_shape (expr_view b.value)) (ap expr_view is ∙ seen) refl

pub not_text : (d : conds.Cond) (b : Box conds.Cond Global) → d ≡ conds.Not b → codes "(not" ++ (32 ∷ (shape_text (condition_shape (cond_view b.value)) ++ 41 ∷ [])) ≡ shape_text (condition_shape (cond_view d))
not_text d b is =
    let seen : cond_view (conds.Not b) ≡ negation (cond_view b.value) = search (rules, conds.the_lemmas) in
    one_of cond_view condition_shape d (negation (cond_view b.value)) (codes "not") (condition_shape (cond_view b.value)) (ap cond_view is ∙ seen) refl

pub imply_text : (d : conds.Cond) (a b : Box conds.Cond Global) → d ≡ conds.Imply a b → codes "(imply " ++ (shape_text (condition_shape (cond_view a.value)) ++ (32 ∷ (shape_text (condition_shape (cond_view b.value)) ++ 41 ∷ []))) ≡ shape_text (condition_shape (cond_view d))
imply_text d a b is =
    let seen : cond_view (conds.Imply a b) ≡ implies (cond_view a.value) (cond_view b.value) = search (rules, conds.the_lemmas) in
    two_of cond_view condition_shape d (implies (cond_view a.value) (cond_view b.value)) (codes "imply") (condition_shape (cond_view a.value)) (condition_shape (cond_view b.value)) (ap cond_view is ∙ seen) refl

pub all_text : (d : conds.Cond) (vs : Vec Typed Global) (b : Box conds.Cond Global) → d ≡ conds.Forall vs b → codes "(forall " ++ (shape_text (node (typed_shapes (map typed_view vs.items))) ++ (32 ∷ (shape_text (condition_shape (cond_view b.value)) ++ 41 ∷ []))) ≡ shape_text (condition_shape (cond_view d))
all_text d vs b is =
    let seen : cond_view (conds.Forall vs b) ≡ for_all (map typed_view vs.items) (cond_view b.value) = search (rules, conds.the_lemmas) in
    two_of cond_view condition_shape d (for_all (map typed_view vs.items) (cond_view b.value)) (codes "forall") (node (typed_shapes (map typed_view vs.items))) (condition_shape (cond_view b.value)) (ap cond_view is ∙ seen) refl

pub some_text : (d : conds.Cond) (vs : Vec Typed Global) (b : Box conds.Cond Global) → d ≡ conds.Exists vs b → codes "(exists " ++ (shape_text (node (typed_shapes (map typed_view vs.items))) ++ (32 ∷ (shape_text (condition_shape (cond_view b.value)) ++ 41 ∷ []))) ≡ shape_text (condition_shape (cond_view d))
some_text d vs b is =
    let seen : cond_view (conds.Exists vs b) ≡ for_some (map typed_view vs.items) (cond_view b.value) = search (rules, conds.the_lemmas) in
    two_of cond_view condition_shape d (for_some (map typed_view vs.items) (cond_view b.value)) (codes "exists") (node (typed_shapes (map typed_view vs.items))) (condition_shape (cond_view b.value)) (ap cond_view is ∙ seen) refl

pub constraints_text : (r : limits.DurationRule) (v : Vec limits.DurationRule Global) → r ≡ limits.And v → codes "(and" ++ (more_text (constraint_shapes (constraints_in (map constraint_view v.items))) ++ 41 ∷ []) ≡ shape_text (constraint_shape (constraint_view r))
constraints_text r v is =
    let seen : constraint_view (limits.And v) ≡ all_constraints (constraints_in (map constraint_view v.items)) = search (rules, limits.the_lemmas) in
    sym (ap (λ k. shape_text (constraint_shape k)) (ap constraint_view is ∙ seen))

pub limit_text : (r : limits.DurationRule) (op : Comparison) (x : exprs.Expr) → r ≡ limits.Limit op x → codes "(" ++ (comparison_word op ++ (codes " ?duration " ++ (shape_text (expression_shape (expr_view x)) ++ 41 ∷ []))) ≡ shape_text (constraint_shape (constraint_view r))
limit_text r op x is =
    let seen : constraint_view (limits.Limit op x) ≡ constraint op (expr_view x) = search (rules, limits.the_lemmas) in
    two_of constraint_view constraint_shape r (constraint op (expr_view x)) (comparison_word op) (leaf (codes "?duration")) (expression_shape (expr_view x)) (ap constraint_view is ∙ seen) refl

pub specified_text : (m : TimeSpecifier) (s : Shape) → specifier_text m ++ (shape_text s ++ 41 ∷ []) ≡ shape_text (headed (specifier_word m) (two_shapes (leaf (specifier_place m)) s))
specified_text AtStart s = sym (ap (λ (l : List ℕ). codes "(at" ++ l) (two_text (leaf (codes "start")) s))
specified_text OverAll s = sym (ap (λ (l : List ℕ). codes "(over" ++ l) (two_text (leaf (codes "all")) s))
specified_text AtEnd s = sym (ap (λ (l : List ℕ). codes "(at" ++ l) (two_text (leaf (codes "end")) s))
