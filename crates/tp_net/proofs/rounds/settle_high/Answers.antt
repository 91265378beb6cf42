use Rattle.tp_net.proofs.Settling.{settled_high}
use Rattle.tp_net.proofs.rounds.settle_high.Goals as goal

pub returns-then-not-fell : goal.returns-then-not-fell
returns-then-not-fell c =
    settled_high c.args.arcs.now c.fall_once-fell.new.high (c.fall_once-fell.ensures.start c.loop-fell.invariant.start) c.fall_once-fell.ensures.high (c.fall_once-fell.ensures.met c.if-not-fell.true)
