use Rattle.std.proofs.Common.{ap, ◌∙◌}
use Rattle.tp_syntax_types.specs.Tables.{or_place}
use Rattle.tp_syntax_types.specs.OwnTables.{variable_name}
use Rattle.tp_syntax_types.proofs.OnTables.{one_more_place}
use Rattle.tp_syntax_types.proofs.own_places.own_places.Goals as goal

pub loop-place-preserved : goal.loop-place-preserved
loop-place-preserved c = λ n.
    c.in_ok-put.ensures n
    ∙ ap (λ o. or_place o c.as_str.result.now c.loop-place.place n) (c.loop-place.invariant n)
    ∙ one_more_place variable_name c.args.items.now c.loop-place.place c.index-items-place.result c.as_str.result.now n c.loop-place-test.true c.index-items-place.is c.as_str.ensures.value
