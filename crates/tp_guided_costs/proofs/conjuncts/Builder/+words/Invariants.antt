use Rattle.std.proofs.Common.{◌+◌, ◌*◌}
use Rattle.tp_guided_costs.proofs.conjuncts.Builder.+words.Given as goal

abbrev pub decreases-any : goal.decreases-any
decreases-any l = 2 * l.depth + 1

abbrev pub decreases-every : goal.decreases-every
decreases-every l = 2 * l.depth + 1

abbrev pub decreases-one : goal.decreases-one
decreases-one l = 2 * l.depth
