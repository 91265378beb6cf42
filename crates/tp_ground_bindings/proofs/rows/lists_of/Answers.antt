use Rattle.tp_ground_bindings.specs.Views.{universe_view}
use Rattle.tp_ground_bindings.proofs.OnRows.{lists_more}
use Rattle.tp_ground_bindings.proofs.rows.lists_of.Goals as goal

pub loop-variable-preserved : goal.loop-variable-preserved
loop-variable-preserved c = lists_more (universe_view c.args.universe.now) _ _ _ c.args.variables.now c.loop-variable.variable-index c.variable-item.result c.in_ok-push.ensures.items c.in_ok-choices.ensures c.loop-variable.invariant c.loop-variable-test.true c.variable-item.is
