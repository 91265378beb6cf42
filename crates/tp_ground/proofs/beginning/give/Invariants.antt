use Rattle.std.proofs.Common.{◌≡◌, ℕ, ◌<◌, None, length, get_or, drop}
use Rattle.tp_ground.specs.Initially.{or_else, value_at}
use Rattle.tp_ground.proofs.beginning.give.Given as goal

abbrev pub invariant-loop-one : goal.invariant-loop-one
invariant-loop-one l = (j : ℕ) → j < length l.numbers → or_else (value_at (drop l.one-index l.entries) j) (get_or l.numbers j None) ≡ or_else (value_at l.entries j) (get_or l.initial.numbers j None)
