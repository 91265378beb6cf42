use Rattle.tp_syntax_scope.proofs.OnTypes.{knows_put}
use Rattle.tp_syntax_scope.proofs.type_reader.known_names.Goals as goal

pub loop-declared-preserved : goal.loop-declared-preserved
loop-declared-preserved c =
    knows_put c.loop-declared.known c.insert-in-loop-declared.new.self c.as_str.result c.args.types.now c.loop-declared.declared-index c.declared-item.result c.in_ok-insert-2.ensures.keys c.loop-declared-test.true c.declared-item.is c.as_str.ensures.value c.loop-declared.invariant
