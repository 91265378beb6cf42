use Rattle.std.proofs.Common.{◌+◌, ◌<◌, ◌≤◌, ℕ, length}
use Rattle.tp_ground_bindings.specs.Rows.{lists_of, IsAtEnd}
use Rattle.tp_ground_bindings.proofs.rows.turning.Given as goal

abbrev pub invariant-loop-behind : goal.invariant-loop-behind
invariant-loop-behind l = (k : ℕ) → length l.places ≤ k + l.behind → k < length l.places → IsAtEnd (lists_of l.lists) l.places k
