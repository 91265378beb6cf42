use Rattle.std.proofs.Common.{◌≡◌, ℕ, ◌+◌, ◌<◌, length, get_or}
use Rattle.tp_net.proofs.moments.ceilings.Given as goal

abbrev pub invariant-loop-x : goal.invariant-loop-x
invariant-loop-x l = record { len : length l.ceilings.items ≡ l.x; start : get_or l.ceilings.items 0 0 ≡ 0; each : (y : ℕ) → 0 < y → y < l.x → get_or l.ceilings.items y 0 ≡ get_or l.known y 0 + l.amount }
