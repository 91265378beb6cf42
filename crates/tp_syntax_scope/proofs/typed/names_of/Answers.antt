use Rattle.std.proofs.Common.{map, List, String, Global, string_bytes, ap, ◌∙◌}
use Rattle.std.proofs.lemmas.List.{map-append}
use Rattle.std.proofs.lemmas.Result.{err_from_is_err_and}
use Rattle.tp_syntax_ast.proofs.Loops.{goes_on, fails, ends}
use Rattle.tp_syntax_scope.proofs.OnNames.{each_name}
use Rattle.tp_syntax_scope.proofs.typed.names_of.Goals as goal

pub returns-in_err-name_at : goal.returns-in_err-name_at
returns-in_err-name_at c =
    let p = err_from_is_err_and c.from_residual.result c.from_residual.ensures.1 in
    rw (p.1, p.2) (fails each_name c.in_err-name_at.field-0.0 _ c.args.trees.now c.loop-tree.tree-index c.tree-item.result _ c.loop-tree-test.true c.tree-item.is c.in_err-name_at.ensures c.loop-tree.invariant)

pub loop-tree-preserved : goal.loop-tree-preserved
loop-tree-preserved c =
    goes_on each_name _ _ c.args.trees.now c.loop-tree.tree-index c.tree-item.result _ _ c.loop-tree-test.true c.tree-item.is c.in_ok-name_at.ensures
    (ap (λ (ss : List (String Global)). map string_bytes ss) c.in_ok-push.ensures.items ∙ map-append string_bytes _ _)
    c.loop-tree.invariant

pub returns : goal.returns
returns c = ends each_name _ c.args.trees.now c.loop-tree.tree-index _ c.loop-tree-test.false c.loop-tree.invariant
