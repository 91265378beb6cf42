use Rattle.std.proofs.Common.{◌≡◌, ◌-◌, length}
use Rattle.tp_net.specs.Rounds.{AreLow, total}
use Rattle.tp_net.proofs.rounds.settle_low.Given as goal

abbrev pub invariant-loop-rose : goal.invariant-loop-rose
invariant-loop-rose l = record { len : length l.low ≡ length l.known; near : AreLow l.arcs l.low }

abbrev pub decreases-loop-rose : goal.decreases-loop-rose
decreases-loop-rose l = total l.known - total l.low
