use Rattle.std.proofs.Common.{ap, ◌∙◌}
use Rattle.tp_syntax_types.specs.Tables.{or_place}
use Rattle.tp_syntax_types.proofs.OnTables.{one_more_place}
use Rattle.tp_syntax_types.proofs.table.places.Goals as goal

pub loop-place-preserved : goal.loop-place-preserved
loop-place-preserved g c = λ n.
    c.in_ok-put.ensures n
    ∙ ap (λ o. or_place o c.name.result.now c.loop-place.place n) (c.loop-place.invariant n)
    ∙ one_more_place g.T.Named.named c.args.items.now c.loop-place.place c.index-items-place.result c.name.result.now n c.loop-place-test.true c.index-items-place.is c.name.ensures
