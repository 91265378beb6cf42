use Rattle.std.proofs.Common.{◌≡◌, map, drop}
use Rattle.tp_syntax_ast.specs.Gives.{with_front}
use Rattle.tp_syntax_ast.specs.Terms.{shapes}
use Rattle.tp_syntax_ast.specs.Symbols.{signature_view}
use Rattle.tp_syntax_types.specs.TypeViews.{types_view}
use Rattle.tp_syntax_ast.specs.Domains.{signatures_of}
use Rattle.tp_syntax_scope.proofs.signatures.signatures_of.Given as goal

abbrev pub invariant-loop-tree : goal.invariant-loop-tree
invariant-loop-tree l = with_front (map signature_view l.signatures.items) (signatures_of (types_view l.types) (shapes (drop l.tree-index l.trees))) ≡ signatures_of (types_view l.types) (shapes l.trees)
