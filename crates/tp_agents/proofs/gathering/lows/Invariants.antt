use Rattle.std.proofs.Common.{◌≡◌, ℕ, ◌<◌, length}
use Rattle.tp_bounds.specs.Certificates.{moments_of}
use Rattle.tp_exec_machine.proofs.Least.{IsLeastBelow}
use Rattle.tp_agents.proofs.gathering.lows.Given as goal

abbrev pub invariant-loop-e : goal.invariant-loop-e
invariant-loop-e g l =
    (t : ℕ → ℕ) × IsLeastBelow (g.N.Net.seen l.net) l.e t × (length l.least.items ≡ l.e)
    × ((k : ℕ) → k < l.e → moments_of l.least.items k ≡ t k)
