use Rattle.std.proofs.Common.{◌≡◌, map, drop}
use Rattle.tp_syntax_ast.specs.Gives.{with_front}
use Rattle.tp_syntax_ast.specs.Terms.{shapes}
use Rattle.tp_syntax_scope.specs.ScopeViews.{scope_view, symbols_of}
use Rattle.tp_syntax_ast.specs.Parts.{parts_of}
use Rattle.tp_syntax_ast.specs.PartViews.{joined_view}
use Rattle.tp_syntax_bodies.proofs.joined.+joined.Given as goal

abbrev pub invariant-read_parts-loop-tree : goal.invariant-read_parts-loop-tree
invariant-read_parts-loop-tree g l = with_front (map (joined_view g.P.Inner.seen) l.parts.items) (parts_of (symbols_of l.scope).types (g.P.Inner.spelled (symbols_of l.scope) l.duration) (scope_view l.scope) (shapes (drop l.tree-index l.trees))) ≡ parts_of (symbols_of l.scope).types (g.P.Inner.spelled (symbols_of l.scope) l.duration) (scope_view l.scope) (shapes l.trees)
