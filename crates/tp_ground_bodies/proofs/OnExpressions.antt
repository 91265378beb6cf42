-- Expressions over fluents' words, and over their numbers.
use Rattle.std.proofs.Common.{◌≡◌, ℕ, ℤ, Box, Global, sym, ap, ◌∙◌, rules}
use Rattle.tp_syntax_ast.specs.ExprViews.{expr_view}
use Rattle.tp_syntax_ast.specs.declared.expr.Expr as syntax
use Rattle.tp_ground_bindings.specs.Bindings.{Env}
use Rattle.tp_task.specs.Tables.{Tables, words_at}
use Rattle.tp_ground_bodies.specs.Written.{GroundExpression, number, fluent, the_duration, negative, sum, difference, product, expression_in}
use Rattle.tp_ground_bodies.specs.ReadBack.{named_expression}
use Rattle.tp_task.specs.declared.events.Expr as exprs
use Rattle.tp_task.specs.declared.events.Expr.{Expr}

module _ (env : Env) (x : syntax.Expr) where
  pub at_Negated : (a : Box syntax.Expr Global) → x ≡ syntax.Negated a → expression_in env (expr_view x) ≡ negative (expression_in env (expr_view a.value))
  at_Negated a is = ap (λ y. expression_in env (expr_view y)) is ∙ search (rules, syntax.the_lemmas)

  pub at_Sum : (a b : Box syntax.Expr Global) → x ≡ syntax.Sum a b → expression_in env (expr_view x) ≡ sum (expression_in env (expr_view a.value)) (expression_in env (expr_view b.value))
  at_Sum a b is = ap (λ y. expression_in env (expr_view y)) is ∙ search (rules, syntax.the_lemmas)

  pub at_Difference : (a b : Box syntax.Expr Global) → x ≡ syntax.Difference a b → expression_in env (expr_view x) ≡ difference (expression_in env (expr_view a.value)) (expression_in env (expr_view b.value))
  at_Difference a b is = ap (λ y. expression_in env (expr_view y)) is ∙ search (rules, syntax.the_lemmas)

  pub at_Product : (a b : Box syntax.Expr Global) → x ≡ syntax.Product a b → expression_in env (expr_view x) ≡ product (expression_in env (expr_view a.value)) (expression_in env (expr_view b.value))
  at_Product a b is = ap (λ y. expression_in env (expr_view y)) is ∙ search (rules, syntax.the_lemmas)

module _ (t : Tables) where
  pub named_Number : (n : ℤ) → named_expression t (exprs.Number n) ≡ number n
  named_Number n = search (rules, exprs.the_lemmas)

  pub named_Duration : named_expression t exprs.Duration ≡ the_duration
  named_Duration = search (rules, exprs.the_lemmas)

  pub named_Fluent : (f : ℕ) → named_expression t (exprs.Fluent f) ≡ fluent (words_at t.fluents f)
  named_Fluent f = search (rules, exprs.the_lemmas)

  pub named_Negated : (x : Box Expr Global) → named_expression t (exprs.Negated x) ≡ negative (named_expression t x.value)
  named_Negated x = search (rules, exprs.the_lemmas)

  pub named_Sum : (x y : Box Expr Global) → named_expression t (exprs.Sum x y) ≡ sum (named_expression t x.value) (named_expression t y.value)
  named_Sum x y = search (rules, exprs.the_lemmas)

  pub named_Difference : (x y : Box Expr Global) → named_expression t (exprs.Difference x y) ≡ difference (named_expression t x.value) (named_expression t y.value)
  named_Difference x y = search (rules, exprs.the_lemmas)

  pub named_Product : (x y : Box Expr Global) → named_expression t (exprs.Product x y) ≡ product (named_expression t x.value) (named_expression t y.value)
  named_Product x y = search (rules, exprs.the_lemmas)

-- the same of the parts that are lent
module _ (env : Env) (x l r : syntax.Expr) (a b : Box syntax.Expr Global) (left : l ≡ a.value) (right : r ≡ b.value) where
  pub sum_of : x ≡ syntax.Sum a b → expression_in env (expr_view x) ≡ sum (expression_in env (expr_view l)) (expression_in env (expr_view r))
  sum_of is = at_Sum env x a b is ∙ ap (λ e. sum (expression_in env (expr_view e)) (expression_in env (expr_view b.value))) (sym left) ∙ ap (λ e. sum (expression_in env (expr_view l)) (expression_in env (expr_view e))) (sym right)

  pub difference_of : x ≡ syntax.Difference a b → expression_in env (expr_view x) ≡ difference (expression_in env (expr_view l)) (expression_in env (expr_view r))
  difference_of is = at_Difference env x a b is ∙ ap (λ e. difference (expression_in env (expr_view e)) (expression_in env (expr_view b.value))) (sym left) ∙ ap (λ e. difference (expression_in env (expr_view l)) (expression_in env (expr_view e))) (sym right)

  pub product_of : x ≡ syntax.Product a b → expression_in env (expr_view x) ≡ product (expression_in env (expr_view l)) (expression_in env (expr_view r))
  product_of is = at_Product env x a b is ∙ ap (λ e. product (expression_in env (expr_view e)) (expression_in env (expr_view b.value))) (sym left) ∙ ap (λ e. product (expression_in env (expr_view l)) (expression_in env (expr_view e))) (sym right)

abbrev pub named_box : Tables → Box Expr Global → GroundExpression
named_box t b = named_expression t b.value
