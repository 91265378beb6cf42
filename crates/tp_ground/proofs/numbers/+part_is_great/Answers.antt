use Rattle.tp_ground.proofs.OnGreat.{great_parts_And}
use Rattle.tp_ground.proofs.numbers.+part_is_great.Goals as goal

pub part_is_great-returns-in-And : goal.part_is_great-returns-in-And
part_is_great-returns-in-And g t c = great_parts_And g.P.Numbers.seen g.P.Numbers.great _ c.in-And.parts c.deref.result.now _ c.in-And.is c.deref.ensures.value c.some_part_is_great.ensures
