use Rattle.std.proofs.Common.{◌≡◌, ℕ, ◌<◌, true}
use Rattle.tp_task.specs.Rounds.{set_of}
use Rattle.tp_ground_joins.proofs.closed.has_first.Given as goal

abbrev pub invariant-loop-place : goal.invariant-loop-place
invariant-loop-place l = (k : ℕ) → k < l.place → set_of l.first k ≡ true → set_of l.reach k ≡ true
