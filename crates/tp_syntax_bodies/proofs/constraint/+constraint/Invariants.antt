use Rattle.std.proofs.Common.{◌≡◌, map, drop}
use Rattle.tp_syntax_ast.specs.Gives.{with_front}
use Rattle.tp_syntax_ast.specs.Terms.{shapes}
use Rattle.tp_syntax_scope.specs.ScopeViews.{scope_view, symbols_of}
use Rattle.tp_syntax_ast.specs.Effects.{constraints_of}
use Rattle.tp_syntax_ast.specs.ConstraintViews.{constraint_view}
use Rattle.tp_syntax_bodies.proofs.constraint.+constraint.Given as goal

abbrev pub invariant-read_constraints-loop-tree : goal.invariant-read_constraints-loop-tree
invariant-read_constraints-loop-tree l = with_front (map constraint_view l.constraints.items) (constraints_of (symbols_of l.scope) (scope_view l.scope) (shapes (drop l.tree-index l.trees))) ≡ constraints_of (symbols_of l.scope) (scope_view l.scope) (shapes l.trees)
