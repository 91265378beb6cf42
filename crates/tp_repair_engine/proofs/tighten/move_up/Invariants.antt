use Rattle.std.proofs.Common.{◌≡◌, ◌+◌, ◌<◌, ◌≤◌, ℕ, length, get_or}
use Rattle.tp_repair_engine.proofs.tighten.move_up.Given as goal

abbrev pub invariant-loop-point : goal.invariant-loop-point
invariant-loop-point l = record {
  len : length l.low.items ≡ length l.fn.low.items;
  done : (x : ℕ) → x < length l.low.items → get_or l.work.ranks.items x 0 ≤ l.point-index → get_or l.low.items x 0 ≡ get_or l.fn.low.items x 0 + get_or l.work.amounts.items x 0;
  left : (x : ℕ) → x < length l.low.items → l.point-index < get_or l.work.ranks.items x 0 → get_or l.low.items x 0 ≡ get_or l.fn.low.items x 0;
}
