use Rattle.tp_net.proofs.KeptMoments.{cycle_named}
use Rattle.tp_net.proofs.edges.refutation.Goals as goal

pub named-requires : goal.named-requires
named-requires c =
    simp c.deref.ensures.value
    (cycle_named c.args.names.now c.args.arcs.now c.args.new c.in_ok-cycle.cycle.items c.requires.len c.in_ok-cycle.ensures)
