use Rattle.tp_ground_joins.proofs.OnParts.{some_parts_And}
use Rattle.tp_ground_joins.proofs.needed.+part_adds.Goals as goal

pub part_adds-returns-in-And : goal.part_adds-returns-in-And
part_adds-returns-in-And g t c = some_parts_And g.P.Adding.seen (g.P.Adding.adds c.args.name.now) _ c.in-And.parts c.deref.result.now _ c.in-And.is c.deref.ensures.value c.some_part_adds.ensures
