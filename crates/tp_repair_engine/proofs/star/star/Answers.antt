use Rattle.std.proofs.Common.{◌+◌, arith}
use Rattle.tp_repair_engine.proofs.Stars.{star_begun}
use Rattle.tp_repair_engine.proofs.star.star.Goals as goal

pub loop-e-init : goal.loop-e-init
loop-e-init c =
    let e = c.in_ok-store.ensures in
    rw (c.new-floors.ensures.items, c.new-ends.ensures.items)
    (star_begun c.args.horizon (c.args.events + 1) c.in_ok-store.store e.into e.out e.halves_in e.halves_out e.none e.degrees)

pub loop-e-preserved : goal.loop-e-preserved
loop-e-preserved c = c.in_ok-grow.ensures (c.args.events + 1) (let t = c.loop-e-test.true in omega (arith, t)) c.loop-e.invariant
