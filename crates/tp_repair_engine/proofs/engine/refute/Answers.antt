use Rattle.std.proofs.Common.{◌+◌, get_or, subst}
use Rattle.std.specs.Prelude.{pos}
use Rattle.tp_repair_engine.specs.Store.{arcs_of}
use Rattle.tp_repair_engine.specs.Work.{Rises, WouldRise, AreThere}
use Rattle.tp_repair_engine.proofs.Wires.{low_potential}
use Rattle.tp_repair_engine.proofs.engine.refute.Goals as goal

pub named-requires : goal.named-requires
named-requires c =
    let slots = c.args.engine.now.store.nodes.slots in
    let there : AreThere slots c.in_ok-path.field-0 = c.in_ok-path.ensures.there in
    rw c.deref-in-Some.ensures.value (subst (λ o. AreThere slots o) c.in-Some.is there)

pub unreachable-requires : goal.unreachable-requires
unreachable-requires c =
    let g = c.args.engine.now in
    let arcs = arcs_of g.store.nodes.slots in
    let amounts = c.rise.new.work.amounts.items in
    let r : Rises arcs c.args.new g.low.items amounts = subst (λ o. WouldRise arcs c.args.new g.low.items amounts o) c.in-None.is (simp c.deref.ensures.value at c.in_ok-path.ensures.rises) in
    c.requires.none (λ x. pos (get_or g.low.items x 0 + get_or amounts x 0)) r.solution

pub invariant_of-low : goal.invariant_of-low
invariant_of-low c = rw c.deref.ensures.value (record { met = low_potential c.args.engine.now c.requires.solved })
