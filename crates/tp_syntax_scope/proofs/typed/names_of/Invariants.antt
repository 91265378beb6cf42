use Rattle.std.proofs.Common.{◌≡◌, map, drop, string_bytes}
use Rattle.tp_syntax_ast.specs.Gives.{with_front}
use Rattle.tp_syntax_ast.specs.Terms.{shapes}
use Rattle.tp_syntax_ast.specs.TypedLists.{names_of}
use Rattle.tp_syntax_scope.proofs.typed.names_of.Given as goal

abbrev pub invariant-loop-tree : goal.invariant-loop-tree
invariant-loop-tree l = with_front (map string_bytes l.names.items) (names_of (shapes (drop l.tree-index l.trees))) ≡ names_of (shapes l.trees)
