use Rattle.std.specs.Prelude.{nat_eq, count_by}
use Rattle.tp_net.proofs.Spreads.{IsSettling}
use Rattle.tp_net.proofs.spread.spread.Given as goal

abbrev pub invariant-loop-point : goal.invariant-loop-point
invariant-loop-point l = IsSettling l.links l.points l.seed l.amount l.settled l.amounts.items l.ranks.items l.parents.items

abbrev pub decreases-loop-point : goal.decreases-loop-point
decreases-loop-point l = count_by (λ r. nat_eq r 0) l.ranks.items
