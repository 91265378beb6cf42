use Rattle.std.proofs.Common.{map, ap, ◌∙◌}
use Rattle.std.proofs.lemmas.List.{map-append}
use Rattle.std.proofs.lemmas.Result.{err_from_is_err_and}
use Rattle.tp_syntax_ast.specs.Terms.{term_view}
use Rattle.tp_syntax_ast.proofs.Loops.{goes_on, fails, ends}
use Rattle.tp_syntax_scope.proofs.OnTerms.{each_term}
use Rattle.tp_syntax_scope.proofs.term.terms_of.Goals as goal

pub returns-in_err-term_at : goal.returns-in_err-term_at
returns-in_err-term_at c =
    let p = err_from_is_err_and c.from_residual-in_err-term_at.result c.from_residual-in_err-term_at.ensures.1 in
    rw (p.1, p.2) (fails each_term c.in_err-term_at.field-0.0 _ c.args.trees.now c.loop-tree.tree-index c.tree-item.result _ c.loop-tree-test.true c.tree-item.is c.in_err-term_at.ensures c.loop-tree.invariant)

pub loop-tree-preserved : goal.loop-tree-preserved
loop-tree-preserved c =
    goes_on each_term _ _ c.args.trees.now c.loop-tree.tree-index c.tree-item.result _ _ c.loop-tree-test.true c.tree-item.is c.in_ok-term_at.ensures
    (ap (map term_view) c.in_ok-push.ensures.items ∙ map-append term_view _ _)
    c.loop-tree.invariant

pub returns : goal.returns
returns c = ends each_term _ c.args.trees.now c.loop-tree.tree-index _ c.loop-tree-test.false c.loop-tree.invariant
