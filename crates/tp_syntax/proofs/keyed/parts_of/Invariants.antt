use Rattle.std.proofs.Common.{◌≡◌, map, drop}
use Rattle.tp_syntax_ast.specs.Gives.{with_front}
use Rattle.tp_syntax_ast.specs.Terms.{shapes}
use Rattle.tp_syntax.specs.KeyedParts.{part_seen, parts_of}
use Rattle.tp_syntax.proofs.keyed.parts_of.Given as goal

abbrev pub invariant-loop-tree : goal.invariant-loop-tree
invariant-loop-tree g l = with_front (map part_seen l.parts.items) (parts_of g.K.SectionWord.kind_of (shapes (drop l.tree-index l.trees))) ≡ parts_of g.K.SectionWord.kind_of (shapes l.trees)
