use Rattle.std.proofs.Common.{◌+◌, get_or, subst}
use Rattle.tp_repair_engine.specs.declared.engine.Engine.{Engine}
use Rattle.tp_repair_engine.specs.Store.{arcs_of}
use Rattle.tp_repair_engine.specs.Work.{Rises, WouldRise}
use Rattle.tp_repair_engine.proofs.Wires.{low_potential, high_potential}
use Rattle.tp_repair_engine.proofs.engine.tighten.Goals as goal

pub invariant_of-low : goal.invariant_of-low
invariant_of-low c = rw c.deref.ensures.value (record { met = low_potential c.args.engine.now c.requires.solved })

pub invariant_of-high : goal.invariant_of-high
invariant_of-high c = rw c.deref-2.ensures.value (record { met = high_potential c.args.engine.now c.requires.solved })

pub fall-requires-clause-solution : goal.fall-requires-clause-solution
fall-requires-clause-solution c =
    let g : Engine = c.args.engine.now in
    let arcs = arcs_of g.store.nodes.slots in
    let amounts = c.rise.new.work.amounts.items in
    let r : Rises arcs c.args.new g.low.items amounts = subst (λ o. WouldRise arcs c.args.new g.low.items amounts o) c.in_default.is (simp c.deref.ensures.value at c.in_ok-path.ensures.rises) in
    (λ x. get_or g.low.items x 0 + get_or amounts x 0, r.solution)
