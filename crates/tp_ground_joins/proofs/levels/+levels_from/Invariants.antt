use Rattle.std.proofs.Common.{length}
use Rattle.tp_ground_joins.proofs.levels.+levels_from.Given as goal

abbrev pub decreases-levels_from : goal.decreases-levels_from
decreases-levels_from l = length l.lists.now
