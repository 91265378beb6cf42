use Rattle.std.proofs.Common.{◌≡◌, map, drop, string_bytes}
use Rattle.tp_syntax_ast.specs.Gives.{with_front}
use Rattle.tp_syntax_ast.specs.Terms.{shapes}
use Rattle.tp_syntax_ast.specs.Domains.{requirements_in}
use Rattle.tp_syntax_scope.proofs.head.requirements_in.Given as goal

abbrev pub invariant-loop-tree : goal.invariant-loop-tree
invariant-loop-tree l = with_front (map string_bytes l.words.items) (requirements_in (shapes (drop l.tree-index l.trees))) ≡ requirements_in (shapes l.trees)
