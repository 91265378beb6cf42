use Rattle.std.proofs.Common.{map, ap, ◌∙◌}
use Rattle.std.proofs.lemmas.List.{map-append}
use Rattle.std.proofs.lemmas.Result.{err_from_is_err_and}
use Rattle.tp_syntax_ast.specs.Symbols.{signature_view}
use Rattle.tp_syntax_types.specs.TypeViews.{types_view}
use Rattle.tp_syntax_ast.proofs.Loops.{goes_on, fails, ends}
use Rattle.tp_syntax_scope.proofs.OnSignatures.{each_signature}
use Rattle.tp_syntax_scope.proofs.signatures.signatures_of.Goals as goal

pub returns-in_err-signature_at : goal.returns-in_err-signature_at
returns-in_err-signature_at c =
    let p = err_from_is_err_and c.from_residual.result c.from_residual.ensures.1 in
    rw (p.1, p.2) (fails (each_signature (types_view c.args.types.now)) c.in_err-signature_at.field-0.0 _ c.args.trees.now c.loop-tree.tree-index c.tree-item.result _ c.loop-tree-test.true c.tree-item.is c.in_err-signature_at.ensures c.loop-tree.invariant)

pub loop-tree-preserved : goal.loop-tree-preserved
loop-tree-preserved c =
    goes_on (each_signature (types_view c.args.types.now)) _ _ c.args.trees.now c.loop-tree.tree-index c.tree-item.result _ _ c.loop-tree-test.true c.tree-item.is c.in_ok-signature_at.ensures
    (ap (map signature_view) c.in_ok-push.ensures.items ∙ map-append signature_view _ _)
    c.loop-tree.invariant

pub returns : goal.returns
returns c = ends (each_signature (types_view c.args.types.now)) _ c.args.trees.now c.loop-tree.tree-index _ c.loop-tree-test.false c.loop-tree.invariant
