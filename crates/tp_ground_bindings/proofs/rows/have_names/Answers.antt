use Rattle.tp_ground_bindings.proofs.OnRows.{some_more, none_more, none_here}
use Rattle.tp_ground_bindings.proofs.rows.have_names.Goals as goal

pub returns-then-is_empty-clause-none : goal.returns-then-is_empty-clause-none
returns-then-is_empty-clause-none c = λ _. c.loop-names.invariant.none (none_here c.args.lists.now c.loop-names.names-index c.names-item.result c.loop-names-test.true c.names-item.is c.as_slice.result.now c.is_empty.result c.as_slice.ensures.value c.is_empty.ensures c.if-is_empty.true)

pub loop-names-preserved : goal.loop-names-preserved
loop-names-preserved c = record {
  some = λ rest. c.loop-names.invariant.some (some_more c.args.lists.now c.loop-names.names-index c.names-item.result c.loop-names-test.true c.names-item.is c.as_slice.result.now c.is_empty.result c.as_slice.ensures.value c.is_empty.ensures c.if-is_empty.false rest);
  none = λ rest. c.loop-names.invariant.none (none_more c.args.lists.now c.loop-names.names-index c.names-item.result c.loop-names-test.true c.names-item.is rest);
}
