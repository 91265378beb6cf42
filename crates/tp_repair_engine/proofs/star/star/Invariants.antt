use Rattle.std.proofs.Common.{◌+◌}
use Rattle.tp_repair_engine.specs.Star.{IsStar}
use Rattle.tp_repair_engine.proofs.star.star.Given as goal

abbrev pub invariant-loop-e : goal.invariant-loop-e
invariant-loop-e l = IsStar l.horizon (l.events + 1) l.e l.floors.items l.ends.items l.store
