use Rattle.std.proofs.Common.{◌≡◌, length, get_or}
use Rattle.tp_net.specs.Rounds.{AreHigh, AreFar, total}
use Rattle.tp_net.proofs.rounds.settle_high.Given as goal

abbrev pub invariant-loop-fell : goal.invariant-loop-fell
invariant-loop-fell l = record { len : length l.high ≡ length l.known; near : AreHigh l.arcs l.high; far : AreFar l.high; start : get_or l.high 0 0 ≡ 0 }

abbrev pub decreases-loop-fell : goal.decreases-loop-fell
decreases-loop-fell l = total l.high
