use Rattle.std.proofs.Common.{◌≡◌, ℕ, ◌+◌, ◌-◌, ◌<◌, length, get_or}
use Rattle.tp_repair_engine.proofs.solve.highest.Given as goal

abbrev pub invariant-loop-x : goal.invariant-loop-x
invariant-loop-x l = record {
  len : length l.high.items ≡ length l.known;
  each : (k : ℕ) → k < l.x → get_or l.high.items k 0 ≡ (get_or l.known k 0 + l.amount) - get_or l.amounts k 0;
}
