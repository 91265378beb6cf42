use Rattle.tp_ground.proofs.OnGreat.{great_constraints_And}
use Rattle.tp_ground.proofs.numbers.+constraint_is_great.Goals as goal

pub constraint_is_great-returns-in-And : goal.constraint_is_great-returns-in-And
constraint_is_great-returns-in-And t c = great_constraints_And _ c.in-And.constraints c.deref.result.now _ c.in-And.is c.deref.ensures.value c.some_constraint_is_great.ensures
