use Rattle.std.proofs.Common.{◌≡◌, map, drop}
use Rattle.tp_syntax_ast.specs.Gives.{with_front}
use Rattle.tp_syntax_ast.specs.Terms.{shapes}
use Rattle.tp_syntax_ast.specs.Problems.{initial_of}
use Rattle.tp_syntax_scope.specs.SymbolViews.{symbols_view}
use Rattle.tp_syntax_ast.specs.DomainViews.{initial_view}
use Rattle.tp_syntax.proofs.initial.initial_of.Given as goal

abbrev pub invariant-loop-tree : goal.invariant-loop-tree
invariant-loop-tree l = with_front (map initial_view l.entries.items) (initial_of (symbols_view l.symbols) (shapes (drop l.tree-index l.trees))) ≡ initial_of (symbols_view l.symbols) (shapes l.trees)
