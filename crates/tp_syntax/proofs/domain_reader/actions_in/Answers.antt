use Rattle.std.proofs.lemmas.Result.{err_from_is_err_and}
use Rattle.tp_syntax_scope.specs.SymbolViews.{symbols_view}
use Rattle.tp_syntax.proofs.OnDomains.{actions_go_on, actions_fail, actions_end}
use Rattle.tp_syntax.proofs.domain_reader.actions_in.Goals as goal

pub returns-in_err-add_action : goal.returns-in_err-add_action
returns-in_err-add_action c =
    let p = err_from_is_err_and c.from_residual.result c.from_residual.ensures.1 in
    rw (p.1, p.2) (actions_fail (symbols_view c.args.symbols.now) c.in_err-add_action.field-0.0 _ c.args.parts.now c.loop-part.part-index c.part-item.result _ c.loop-part-test.true c.part-item.is c.in_err-add_action.ensures c.loop-part.invariant)

pub loop-part-preserved : goal.loop-part-preserved
loop-part-preserved c = actions_go_on (symbols_view c.args.symbols.now) _ _ c.args.parts.now c.loop-part.part-index c.part-item.result _ c.loop-part-test.true c.part-item.is c.in_ok-add_action.ensures c.loop-part.invariant

pub returns : goal.returns
returns c = actions_end (symbols_view c.args.symbols.now) _ c.args.parts.now c.loop-part.part-index _ c.loop-part-test.false c.loop-part.invariant
