use Rattle.std.proofs.Common.{map, ap, ◌∙◌}
use Rattle.std.proofs.lemmas.List.{map-append}
use Rattle.std.proofs.lemmas.Result.{err_from_is_err_and}
use Rattle.tp_syntax.specs.KeyedParts.{part_seen}
use Rattle.tp_syntax_ast.proofs.Loops.{goes_on, fails, ends}
use Rattle.tp_syntax.proofs.OnKeyed.{each_part}
use Rattle.tp_syntax.proofs.keyed.parts_of.Goals as goal

pub returns-in_err-part_at : goal.returns-in_err-part_at
returns-in_err-part_at g c =
    let p = err_from_is_err_and c.from_residual.result c.from_residual.ensures.1 in
    rw (p.1, p.2) (fails (each_part g.K.SectionWord.kind_of) c.in_err-part_at.field-0.0 _ c.args.trees.now c.loop-tree.tree-index c.tree-item.result _ c.loop-tree-test.true c.tree-item.is c.in_err-part_at.ensures c.loop-tree.invariant)

pub loop-tree-preserved : goal.loop-tree-preserved
loop-tree-preserved g c =
    goes_on (each_part g.K.SectionWord.kind_of) _ _ c.args.trees.now c.loop-tree.tree-index c.tree-item.result _ _ c.loop-tree-test.true c.tree-item.is c.in_ok-part_at.ensures
    (ap (map part_seen) c.in_ok-push.ensures.items ∙ map-append part_seen _ _)
    c.loop-tree.invariant

pub returns : goal.returns
returns g c = ends (each_part g.K.SectionWord.kind_of) _ c.args.trees.now c.loop-tree.tree-index _ c.loop-tree-test.false c.loop-tree.invariant
