use Rattle.std.proofs.Common.{◌<◌, ◌≤◌, arith}
use Rattle.tp_net.specs.Rounds.{total}
use Rattle.tp_net.proofs.Settling.{settled_low, total_known}
use Rattle.tp_net.proofs.rounds.settle_low.Goals as goal

pub returns-then-not-rose : goal.returns-then-not-rose
returns-then-not-rose c =
    settled_low c.args.arcs.now c.args.known.now c.rise_once-rose.new.low (omega arith) (omega arith) c.requires.known c.rise_once-rose.ensures.low (c.rise_once-rose.ensures.met c.if-not-rose.true)

pub loop-rose-smaller : goal.loop-rose-smaller
loop-rose-smaller c =
    let up : total c.loop-rose.low < total c.rise_once-rose.new.low = c.rise_once-rose.ensures.rose c.if-not-rose.false in
    let most : total c.rise_once-rose.new.low ≤ total c.args.known.now = total_known c.args.arcs.now c.args.known.now c.rise_once-rose.new.low (omega arith) c.requires.known c.rise_once-rose.ensures.low in
    omega (arith, up, most)
