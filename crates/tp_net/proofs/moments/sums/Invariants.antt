use Rattle.std.proofs.Common.{◌≡◌, ℕ, ◌<◌, ◌+◌, length, get_or}
use Rattle.tp_net.proofs.moments.sums.Given as goal

abbrev pub invariant-loop-x : goal.invariant-loop-x
invariant-loop-x l = record {
  len : length l.sums.items ≡ l.x;
  each : (k : ℕ) → k < l.x → get_or l.sums.items k 0 ≡ get_or l.low k 0 + get_or l.amounts k 0;
}
