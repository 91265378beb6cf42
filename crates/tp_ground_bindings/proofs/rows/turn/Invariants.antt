use Rattle.std.proofs.Common.{◌≡◌, ◌+◌, ◌<◌, ℕ, length, get_or}
use Rattle.tp_ground_bindings.proofs.rows.turn.Given as goal

abbrev pub invariant-loop-at : goal.invariant-loop-at
invariant-loop-at l = record {
  long : length l.places ≡ length l.fn.places;
  before : (k : ℕ) → k < l.index → get_or l.places k 0 ≡ get_or l.fn.places k 0;
  at : get_or l.places l.index 0 ≡ get_or l.fn.places l.index 0 + 1;
  behind : (k : ℕ) → l.index < k → k < l.at → get_or l.places k 0 ≡ 0;
}
