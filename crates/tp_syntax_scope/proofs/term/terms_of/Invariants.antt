use Rattle.std.proofs.Common.{◌≡◌, map, drop}
use Rattle.tp_syntax_ast.specs.Gives.{with_front}
use Rattle.tp_syntax_ast.specs.Terms.{terms_of, shapes, term_view}
use Rattle.tp_syntax_scope.proofs.term.terms_of.Given as goal

abbrev pub invariant-loop-tree : goal.invariant-loop-tree
invariant-loop-tree l = with_front (map term_view l.terms.items) (terms_of (shapes (drop l.tree-index l.trees))) ≡ terms_of (shapes l.trees)
