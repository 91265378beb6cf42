use Rattle.std.proofs.Common.{arith}
use Rattle.tp_net.proofs.NewNet.{star_more, star_done}
use Rattle.tp_net.proofs.edges.star.Goals as goal

pub loop-e-preserved : goal.loop-e-preserved
loop-e-preserved c =
    rw (c.in_ok-push-3.ensures.items, c.in_ok-push.ensures.items, c.in_ok-push-4.ensures.items, c.in_ok-push-2.ensures.items, c.start_arc.ensures, c.stop_arc.ensures)
    (star_more c.args.events c.args.horizon c.loop-e.e c.loop-e.names.items c.loop-e.arcs.items c.loop-e-test.true c.loop-e.invariant)

pub returns : goal.returns
returns c = star_done c.args.events c.args.horizon c.loop-e.e c.loop-e.names.items c.loop-e.arcs.items (omega (arith, c.loop-e-test.false, c.loop-e.auto.e-end)) c.loop-e.invariant
