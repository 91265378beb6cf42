use Rattle.tp_ground.proofs.OnGreat.{great_And, great_Or}
use Rattle.tp_ground.proofs.numbers.+condition_is_great.Goals as goal

pub condition_is_great-returns-in-And : goal.condition_is_great-returns-in-And
condition_is_great-returns-in-And t c = great_And _ c.in-And.conds c.deref.result.now _ c.in-And.is c.deref.ensures.value c.some_condition_is_great.ensures

pub condition_is_great-returns-in-Or : goal.condition_is_great-returns-in-Or
condition_is_great-returns-in-Or t c = great_Or _ c.in-Or.conds c.deref-in-Or.result.now _ c.in-Or.is c.deref-in-Or.ensures.value c.some_condition_is_great-in-Or.ensures
