use Rattle.std.proofs.Common.{◌≡◌, ℕ, ◌<◌, Some, slice_get, length, is_some}
use Rattle.tp_bounds.specs.Setting.{fixed_at}
use Rattle.tp_exec_machine.proofs.Least.{IsLeastBelow}
use Rattle.tp_exec_machine.proofs.executive.moments_of.Given as goal

abbrev pub invariant-loop-e : goal.invariant-loop-e
invariant-loop-e g l =
    (t : ℕ → ℕ) × IsLeastBelow (g.N.Net.seen l.net) l.e t × (length l.moments.items ≡ l.e)
    × ((k : ℕ) → k < l.e → slice_get l.moments.items k ≡ Some (t k, is_some (fixed_at (g.N.Net.seen l.net) k)))
