use Rattle.std.proofs.Common.{◌≡◌, drop}
use Rattle.tp_syntax_ast.specs.Terms.{shapes}
use Rattle.tp_syntax_ast.specs.Conditions.{are_terms}
use Rattle.tp_syntax_bodies.proofs.cond.are_terms.Given as goal

abbrev pub invariant-loop-tree : goal.invariant-loop-tree
invariant-loop-tree l = are_terms (shapes (drop l.tree-index l.trees)) ≡ are_terms (shapes l.trees)
