use Rattle.std.proofs.Common.{◌≡◌, map, drop}
use Rattle.tp_syntax_ast.specs.Gives.{with_front}
use Rattle.tp_syntax_ast.specs.Terms.{shapes}
use Rattle.tp_syntax_scope.specs.ScopeViews.{scope_view, symbols_of}
use Rattle.tp_syntax_ast.specs.Conditions.{conditions_of}
use Rattle.tp_syntax_ast.specs.CondViews.{cond_view}
use Rattle.tp_syntax_bodies.proofs.cond.+cond.Given as goal

abbrev pub invariant-read_conds-loop-tree : goal.invariant-read_conds-loop-tree
invariant-read_conds-loop-tree l = with_front (map cond_view l.conds.items) (conditions_of (symbols_of l.scope) (scope_view l.scope) (shapes (drop l.tree-index l.trees))) ≡ conditions_of (symbols_of l.scope) (scope_view l.scope) (shapes l.trees)
