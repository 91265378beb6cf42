use Rattle.std.proofs.Common.{◌≡◌, ℕ, ◌<◌, ◌≤◌, length, get_or}
use Rattle.tp_net.proofs.spread.next_point.Given as goal

abbrev pub invariant-loop-point : goal.invariant-loop-point
invariant-loop-point l = record {
  past : (k : ℕ) → k < l.point → get_or l.ranks k 0 ≡ 0 → get_or l.amounts k 0 ≤ l.most;
  best : 0 < l.most → (l.best < length l.amounts) × (get_or l.ranks l.best 0 ≡ 0) × (get_or l.amounts l.best 0 ≡ l.most);
}
