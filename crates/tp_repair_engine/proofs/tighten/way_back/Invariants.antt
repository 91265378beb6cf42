use Rattle.std.proofs.Common.{get_or}
use Rattle.tp_repair_engine.specs.declared.store.Direction.TheVariants.{Up}
use Rattle.tp_repair_engine.specs.Flow.{links_of}
use Rattle.std.specs.Prelude.{All}
use Rattle.tp_repair_engine.specs.Store.{arcs_of, HasNode}
use Rattle.tp_net.proofs.Traces.{IsTracing}
use Rattle.tp_repair_engine.proofs.tighten.way_back.Given as goal

abbrev pub invariant-loop-point : goal.invariant-loop-point
invariant-loop-point l = record {
  tracing : IsTracing (links_of Up (λ x. get_or l.potential.moments.now x 0) (arcs_of l.potential.store.now.nodes.slots)) l.seed l.target l.point l.work.amounts.items l.work.ranks.items l.path.items;
  there : All (HasNode l.potential.store.now.nodes.slots) l.path.items;
}

abbrev pub decreases-loop-point : goal.decreases-loop-point
decreases-loop-point l = get_or l.work.ranks.items l.point 0
