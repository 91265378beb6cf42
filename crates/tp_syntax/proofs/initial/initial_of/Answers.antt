use Rattle.std.proofs.Common.{map, List, ap, ◌∙◌}
use Rattle.std.proofs.lemmas.List.{map-append}
use Rattle.std.proofs.lemmas.Result.{err_from_is_err_and}
use Rattle.tp_syntax_scope.specs.SymbolViews.{symbols_view}
use Rattle.tp_syntax_ast.specs.DomainViews.{initial_view}
use Rattle.tp_syntax_ast.specs.declared.problem.Initial.{Initial}
use Rattle.tp_syntax_ast.proofs.Loops.{goes_on, fails, ends}
use Rattle.tp_syntax.proofs.OnProblems.{each_initial}
use Rattle.tp_syntax.proofs.initial.initial_of.Goals as goal

pub returns-in_err-initial_at : goal.returns-in_err-initial_at
returns-in_err-initial_at c =
    let p = err_from_is_err_and c.from_residual.result c.from_residual.ensures.1 in
    rw (p.1, p.2) (fails (each_initial (symbols_view c.args.symbols.now)) c.in_err-initial_at.field-0.0 _ c.args.trees.now c.loop-tree.tree-index c.tree-item.result _ c.loop-tree-test.true c.tree-item.is c.in_err-initial_at.ensures c.loop-tree.invariant)

pub loop-tree-preserved : goal.loop-tree-preserved
loop-tree-preserved c =
    goes_on (each_initial (symbols_view c.args.symbols.now)) _ _ c.args.trees.now c.loop-tree.tree-index c.tree-item.result _ _ c.loop-tree-test.true c.tree-item.is c.in_ok-initial_at.ensures
    (ap (λ (is_ : List Initial). map initial_view is_) c.in_ok-push.ensures.items ∙ map-append initial_view _ _)
    c.loop-tree.invariant

pub returns : goal.returns
returns c = ends (each_initial (symbols_view c.args.symbols.now)) _ c.args.trees.now c.loop-tree.tree-index _ c.loop-tree-test.false c.loop-tree.invariant
