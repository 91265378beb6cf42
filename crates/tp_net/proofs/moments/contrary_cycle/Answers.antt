use Rattle.std.proofs.Common.{length, subst}
use Rattle.tp_net.specs.Graph.{moment}
use Rattle.tp_net.specs.Moments.{IsRaised}
use Rattle.tp_net.proofs.moments.contrary_cycle.Goals as goal

pub unreachable-requires : goal.unreachable-requires
unreachable-requires c =
    c.requires.none (moment c.in-Consistent._low.items)
    (subst (λ r. IsRaised c.args.arcs.now c.args.new (length c.args.low.now) r) c.in-Consistent.is c.in_ok-cycle.ensures).1.solution
