use Rattle.std.proofs.Common.{get_or}
use Rattle.tp_net.proofs.Traces.{IsTracing}
use Rattle.tp_net.proofs.spread.trace.Given as goal

abbrev pub invariant-loop-point : goal.invariant-loop-point
invariant-loop-point l = IsTracing l.links l.seed l.target l.point l.spreads.amounts.items l.spreads.ranks.items l.path.items

abbrev pub decreases-loop-point : goal.decreases-loop-point
decreases-loop-point l = get_or l.spreads.ranks.items l.point 0
