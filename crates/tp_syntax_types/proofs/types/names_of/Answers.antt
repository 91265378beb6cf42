use Rattle.std.proofs.Common.{List, map, take, refl, string_bytes, subst}
use Rattle.tp_syntax_types.specs.Tables.{Name}
use Rattle.tp_syntax_types.specs.Among.{AreAmong}
use Rattle.tp_syntax_types.proofs.OnClimbs.{among_more, front_more}
use Rattle.tp_syntax_types.proofs.types.names_of.Goals as goal

pub loop-name-preserved : goal.loop-name-preserved
loop-name-preserved c =
    let before = map string_bytes (take c.loop-name.name-index c.args.types.now) in
    subst (λ (ps : List Name). AreAmong ps c.insert.new.self)
    (front_more c.args.types.now c.loop-name.name-index c.name-item.result c.as_str.result.now c.loop-name-test.true c.name-item.is c.as_str.ensures.value)
    (among_more before c.loop-name.names c.insert.new.self c.as_str.result c.as_str.result.now refl c.in_ok-insert.ensures.keys c.loop-name.invariant)
