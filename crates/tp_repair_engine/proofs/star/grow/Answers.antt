use Rattle.std.proofs.Common.{subst}
use Rattle.tp_bounds.specs.Reasons.{at_least, at_most}
use Rattle.tp_bounds.specs.declared.Edge.TheVariants.{Now, End}
use Rattle.tp_net.specs.Arcs.{arc_of}
use Rattle.tp_net.specs.declared.slacks.Arc.{Arc}
use Rattle.tp_repair_engine.specs.Bringing.{IsMore}
use Rattle.tp_repair_engine.specs.Engine.{IsEntered}
use Rattle.tp_repair_engine.proofs.Stars.{star_grown}
use Rattle.tp_repair_engine.proofs.star.grow.Goals as goal

pub returns : goal.returns
returns c = λ points room s.
    let e = c.args.e in
    let k1 = c.in_ok-insert.field-0 in
    let k2 = c.in_ok-insert-2.field-0 in
    let a = c.in_ok-insert.ensures in
    let b = c.in_ok-insert-2.ensures in
    let low = arc_of (at_least e 0) in
    let high = arc_of (at_most e c.args.horizon) in
    let first : IsEntered (Now e) low k1 c.args.store.now.nodes.slots c.insert.new.store.nodes.slots =
    subst (λ (x : Arc). IsEntered (Now e) x k1 c.args.store.now.nodes.slots c.insert.new.store.nodes.slots) c.start_arc.ensures (record { free = a.free; node = a.node; others = a.others }) in
    let second : IsEntered (End e) high k2 c.insert.new.store.nodes.slots c.insert-2.new.store.nodes.slots =
    subst (λ (x : Arc). IsEntered (End e) x k2 c.insert.new.store.nodes.slots c.insert-2.new.store.nodes.slots) c.stop_arc.ensures (record { free = b.free; node = b.node; others = b.others }) in
    let more1 : IsMore low c.args.store.now c.insert.new.store = subst (λ (x : Arc). IsMore x c.args.store.now c.insert.new.store) c.start_arc.ensures a.degrees in
    let more2 : IsMore high c.insert.new.store c.insert-2.new.store = subst (λ (x : Arc). IsMore x c.insert.new.store c.insert-2.new.store) c.stop_arc.ensures b.degrees in
    rw (c.in_ok-push.ensures.items, c.in_ok-push-2.ensures.items)
    (star_grown c.args.horizon points e c.args.floors.now.items c.args.ends.now.items c.args.store.now c.insert.new.store c.insert-2.new.store k1 k2 s room first second a.points b.points b.halves_in b.halves_out more1 more2)
