use Rattle.std.proofs.Common.{◌≡◌, ℕ, ◌<◌, ◌||◌, false, length, get_or, drop}
use Rattle.tp_ground.specs.Initially.{true_at}
use Rattle.tp_ground.proofs.beginning.mark.Given as goal

abbrev pub invariant-loop-one : goal.invariant-loop-one
invariant-loop-one l = (j : ℕ) → j < length l.truths → (true_at (drop l.one-index l.entries) j || get_or l.truths j false) ≡ (true_at l.entries j || get_or l.initial.truths j false)
