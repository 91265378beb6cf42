use Rattle.std.proofs.Common.{◌≡◌, ℕ, ◌<◌, ◌-◌, length, get_or}
use Rattle.tp_net.proofs.moments.differences.Given as goal

abbrev pub invariant-loop-x : goal.invariant-loop-x
invariant-loop-x l = record {
  len : length l.differences.items ≡ l.x;
  each : (k : ℕ) → k < l.x → get_or l.differences.items k 0 ≡ get_or l.high k 0 - get_or l.amounts k 0;
}
