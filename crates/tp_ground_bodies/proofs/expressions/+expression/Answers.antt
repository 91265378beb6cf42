use Rattle.std.proofs.Common.{refl, ap, sym, ◌∙◌}
use Rattle.tp_syntax_ast.specs.ExprViews.{expr_view}
use Rattle.tp_ground_bindings.specs.Views.{env_view}
use Rattle.tp_ground_bodies.specs.Written.{GroundExpression, negative, sum, difference, product, expression_in}
use Rattle.tp_ground_bodies.specs.Mentions.{of_expression}
use Rattle.tp_ground_bodies.specs.ReadBack.{named_expression}
use Rattle.tp_ground_bodies.proofs.OnLowered.{lowered_as, as_written, first_failed, second_failed, both_lowered}
use Rattle.tp_ground_bodies.proofs.OnExpressions.{at_Negated, sum_of, difference_of, product_of, named_Negated, named_Sum, named_Difference, named_Product, named_box}
use Rattle.tp_ground_bodies.proofs.expressions.+expression.Goals as goal

pub operand-returns : goal.operand-returns
operand-returns t c = lowered_as (λ (y : GroundExpression). y) _ (λ u. ap (named_expression u) c.in_ok-new.ensures.ok) c.in_ok-lowered.ensures

pub expression-returns-in_ok-x-in-Negated : goal.expression-returns-in_ok-x-in-Negated
expression-returns-in_ok-x-in-Negated t c =
    let env = env_view c.args.env.now in
    as_written of_expression _ _ (at_Negated env c.args.expr.now c.in-Negated.a c.in-Negated.is ∙ ap (λ e. negative (expression_in env (expr_view e))) (sym c.deref.ensures))
    (lowered_as negative _ (λ u. named_Negated u c.in_ok-x-in-Negated.x) c.in_ok-x-in-Negated.ensures)

pub expression-returns-in_err-x-in-Sum : goal.expression-returns-in_err-x-in-Sum
expression-returns-in_err-x-in-Sum t c =
    let env = env_view c.args.env.now in
    first_failed named_expression named_box named_box of_expression of_expression of_expression sum (λ p q. refl) _ _ _
    (sum_of env c.args.expr.now c.deref-in-Sum.result.now c.in-Sum.b.value c.in-Sum.a c.in-Sum.b c.deref-in-Sum.ensures refl c.in-Sum.is) _ _ _ _ c.from_residual-in_err-x-in-Sum.ensures.1 c.in_err-x-in-Sum.ensures

pub expression-returns-in_err-y-in-Sum : goal.expression-returns-in_err-y-in-Sum
expression-returns-in_err-y-in-Sum t c =
    let env = env_view c.args.env.now in
    second_failed named_expression named_box named_box of_expression of_expression of_expression sum (λ p q. refl) _ _ _
    (sum_of env c.args.expr.now c.deref-in-Sum.result.now c.deref-in-Sum-2.result.now c.in-Sum.a c.in-Sum.b c.deref-in-Sum.ensures c.deref-in-Sum-2.ensures c.in-Sum.is) _ _ _ _ _ _ c.from_residual-in_err-y-in-Sum.ensures.1 c.in_ok-x-in-Sum.ensures c.in_err-y-in-Sum.ensures

pub expression-returns-in_ok-y-in-Sum : goal.expression-returns-in_ok-y-in-Sum
expression-returns-in_ok-y-in-Sum t c =
    let env = env_view c.args.env.now in
    both_lowered named_expression named_box named_box of_expression of_expression of_expression sum (λ p q. refl) _ _ _
    (sum_of env c.args.expr.now c.deref-in-Sum.result.now c.deref-in-Sum-2.result.now c.in-Sum.a c.in-Sum.b c.deref-in-Sum.ensures c.deref-in-Sum-2.ensures c.in-Sum.is) _ _ _ _ _ _ (λ u. named_Sum u _ _) c.in_ok-x-in-Sum.ensures c.in_ok-y-in-Sum.ensures

pub expression-returns-in_err-x-in-Difference : goal.expression-returns-in_err-x-in-Difference
expression-returns-in_err-x-in-Difference t c =
    let env = env_view c.args.env.now in
    first_failed named_expression named_box named_box of_expression of_expression of_expression difference (λ p q. refl) _ _ _
    (difference_of env c.args.expr.now c.deref-in-Difference.result.now c.in-Difference.b.value c.in-Difference.a c.in-Difference.b c.deref-in-Difference.ensures refl c.in-Difference.is) _ _ _ _ c.from_residual-in_err-x-in-Difference.ensures.1 c.in_err-x-in-Difference.ensures

pub expression-returns-in_err-y-in-Difference : goal.expression-returns-in_err-y-in-Difference
expression-returns-in_err-y-in-Difference t c =
    let env = env_view c.args.env.now in
    second_failed named_expression named_box named_box of_expression of_expression of_expression difference (λ p q. refl) _ _ _
    (difference_of env c.args.expr.now c.deref-in-Difference.result.now c.deref-in-Difference-2.result.now c.in-Difference.a c.in-Difference.b c.deref-in-Difference.ensures c.deref-in-Difference-2.ensures c.in-Difference.is) _ _ _ _ _ _ c.from_residual-in_err-y-in-Difference.ensures.1 c.in_ok-x-in-Difference.ensures c.in_err-y-in-Difference.ensures

pub expression-returns-in_ok-y-in-Difference : goal.expression-returns-in_ok-y-in-Difference
expression-returns-in_ok-y-in-Difference t c =
    let env = env_view c.args.env.now in
    both_lowered named_expression named_box named_box of_expression of_expression of_expression difference (λ p q. refl) _ _ _
    (difference_of env c.args.expr.now c.deref-in-Difference.result.now c.deref-in-Difference-2.result.now c.in-Difference.a c.in-Difference.b c.deref-in-Difference.ensures c.deref-in-Difference-2.ensures c.in-Difference.is) _ _ _ _ _ _ (λ u. named_Difference u _ _) c.in_ok-x-in-Difference.ensures c.in_ok-y-in-Difference.ensures

pub expression-returns-in_err-x-in-Product : goal.expression-returns-in_err-x-in-Product
expression-returns-in_err-x-in-Product t c =
    let env = env_view c.args.env.now in
    first_failed named_expression named_box named_box of_expression of_expression of_expression product (λ p q. refl) _ _ _
    (product_of env c.args.expr.now c.deref-in-Product.result.now c.in-Product.b.value c.in-Product.a c.in-Product.b c.deref-in-Product.ensures refl c.in-Product.is) _ _ _ _ c.from_residual-in_err-x-in-Product.ensures.1 c.in_err-x-in-Product.ensures

pub expression-returns-in_err-y-in-Product : goal.expression-returns-in_err-y-in-Product
expression-returns-in_err-y-in-Product t c =
    let env = env_view c.args.env.now in
    second_failed named_expression named_box named_box of_expression of_expression of_expression product (λ p q. refl) _ _ _
    (product_of env c.args.expr.now c.deref-in-Product.result.now c.deref-in-Product-2.result.now c.in-Product.a c.in-Product.b c.deref-in-Product.ensures c.deref-in-Product-2.ensures c.in-Product.is) _ _ _ _ _ _ c.from_residual-in_err-y-in-Product.ensures.1 c.in_ok-x-in-Product.ensures c.in_err-y-in-Product.ensures

pub expression-returns-in_ok-y-in-Product : goal.expression-returns-in_ok-y-in-Product
expression-returns-in_ok-y-in-Product t c =
    let env = env_view c.args.env.now in
    both_lowered named_expression named_box named_box of_expression of_expression of_expression product (λ p q. refl) _ _ _
    (product_of env c.args.expr.now c.deref-in-Product.result.now c.deref-in-Product-2.result.now c.in-Product.a c.in-Product.b c.deref-in-Product.ensures c.deref-in-Product-2.ensures c.in-Product.is) _ _ _ _ _ _ (λ u. named_Product u _ _) c.in_ok-x-in-Product.ensures c.in_ok-y-in-Product.ensures
