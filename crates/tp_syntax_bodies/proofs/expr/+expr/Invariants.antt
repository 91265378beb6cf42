use Rattle.std.proofs.Common.{◌≡◌, map, drop}
use Rattle.tp_syntax_ast.specs.Gives.{with_front}
use Rattle.tp_syntax_ast.specs.Terms.{shapes}
use Rattle.tp_syntax_scope.specs.ScopeViews.{scope_view, symbols_of}
use Rattle.tp_syntax_ast.specs.Expressions.{terms_for, expressions_of}
use Rattle.tp_syntax_ast.specs.ExprViews.{expr_view}
use Rattle.tp_syntax_bodies.proofs.expr.+expr.Given as goal

abbrev pub invariant-read_exprs-loop-tree : goal.invariant-read_exprs-loop-tree
invariant-read_exprs-loop-tree l = with_front (map expr_view l.exprs.items) (expressions_of (symbols_of l.scope) (terms_for (scope_view l.scope) l.duration) (shapes (drop l.tree-index l.trees))) ≡ expressions_of (symbols_of l.scope) (terms_for (scope_view l.scope) l.duration) (shapes l.trees)
