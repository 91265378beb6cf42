-- What an `Expr` shows.
use Rattle.tp_syntax_ast.specs.Terms.{atom_view}
use Rattle.tp_syntax_ast.specs.Expressions.{Expression, number, fluent, sum, negative, difference, product, the_duration}
use Rattle.tp_syntax_ast.specs.declared.expr.Expr.{Expr, fold-Expr}
use Rattle.tp_syntax_ast.specs.declared.expr.Expr.TheOpen.{Expr-F}

abbrev pub expr_step : Expr-F Expression → Expression
expr_step (Expr-F.Number n) = number n
expr_step (Expr-F.Fluent a) = fluent (atom_view a)
expr_step (Expr-F.Sum a b) = sum a.value b.value
expr_step (Expr-F.Negated a) = negative a.value
expr_step (Expr-F.Difference a b) = difference a.value b.value
expr_step (Expr-F.Product a b) = product a.value b.value
expr_step Expr-F.Duration = the_duration

abbrev pub expr_view : Expr → Expression
expr_view = fold-Expr Expression expr_step
