use Rattle.std.proofs.Common.{◌<◌, ℕ, List, length, get_or, slice_get, refl, sym, subst, arith}
use Rattle.tp_bounds.specs.declared.Bound.{Bound}
use Rattle.tp_exec_machine.specs.Orders.{AreAllPlaces}
use Rattle.tp_exec_machine.proofs.OwnBounds.{none_yet}
use Rattle.tp_exec_machine.proofs.Listed.{place_below}
use Rattle.tp_exec_machine.proofs.InTurn.{joined, none_partly, more_there, there_all, all_of}
use Rattle.tp_exec_machine.proofs.own_bounds.bring_own.Goals as goal

pub loop-place-init : goal.loop-place-init
loop-place-init g c =
    record {
      partly = none_partly (g.N.Net.seen c.args.net.now) (slice_get c.args.network.now.bounds.items) (none_yet (g.N.Net.seen c.args.net.now) c.requires.fresh);
      there = λ k lt. absurd (let f : ⊥ = omega (arith, lt) in f);
    }

pub bring_at-requires : goal.bring_at-requires
bring_at-requires g c =
    let xs = c.args.network.now.bounds.items in
    let order = c.deref-place-items.result.now in
    let all0 : AreAllPlaces (length c.deref.result.now) c.in_ok-order.order.items = c.in_ok-order.ensures in
    let all : AreAllPlaces (length xs) order = subst (λ (os : List ℕ). AreAllPlaces (length xs) os) (sym c.deref-place-items.ensures.value) (subst (λ (bs : List Bound). AreAllPlaces (length bs) c.in_ok-order.order.items) c.deref.ensures.value all0) in
    record {
      between = c.requires.between;
      begun = (g.N.Net.seen c.args.net.now, c.requires.fresh, c.requires.events, c.requires.horizon, c.loop-place.invariant.partly);
      ids = omega arith;
      place = place_below (length xs) order c.loop-place.place-index all c.loop-place-test.true;
    }

pub loop-place-preserved : goal.loop-place-preserved
loop-place-preserved g c =
    let xs = c.args.network.now.bounds.items in
    let order = c.deref-place-items.result.now in
    let all0 : AreAllPlaces (length c.deref.result.now) c.in_ok-order.order.items = c.in_ok-order.ensures in
    let all : AreAllPlaces (length xs) order = subst (λ (os : List ℕ). AreAllPlaces (length xs) os) (sym c.deref-place-items.ensures.value) (subst (λ (bs : List Bound). AreAllPlaces (length bs) c.in_ok-order.order.items) c.deref.ensures.value all0) in
    let r = g.N.Net.seen c.loop-place.net in
    let t = g.N.Net.seen c.bring_at.new.net in
    record {
      partly = joined (g.N.Net.seen c.args.net.now) r t (slice_get xs) (get_or order c.loop-place.place-index 0) c.loop-place.invariant.partly c.in_ok-bring_at.ensures;
      there = more_there r t xs order c.loop-place.place-index (get_or order c.loop-place.place-index 0) c.loop-place.invariant.there refl (place_below (length xs) order c.loop-place.place-index all c.loop-place-test.true) c.in_ok-bring_at.ensures;
    }

pub returns-clause-bounds : goal.returns-clause-bounds
returns-clause-bounds g c =
    let xs = c.args.network.now.bounds.items in
    let order = c.deref-place-items.result.now in
    let all0 : AreAllPlaces (length c.deref.result.now) c.in_ok-order.order.items = c.in_ok-order.ensures in
    let all : AreAllPlaces (length xs) order = subst (λ (os : List ℕ). AreAllPlaces (length xs) os) (sym c.deref-place-items.ensures.value) (subst (λ (bs : List Bound). AreAllPlaces (length bs) c.in_ok-order.order.items) c.deref.ensures.value all0) in
    all_of (g.N.Net.seen c.args.net.now) (g.N.Net.seen c.loop-place.net) xs c.requires.fresh c.loop-place.invariant.partly
    (there_all (g.N.Net.seen c.loop-place.net) xs order all (λ k lt. c.loop-place.invariant.there k (omega (arith, lt))))
