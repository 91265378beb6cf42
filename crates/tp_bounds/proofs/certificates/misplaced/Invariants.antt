use Rattle.std.proofs.Common.{ℕ, ◌<◌}
use Rattle.tp_bounds.specs.Certificates.{MayHappen, moments_of}
use Rattle.tp_bounds.proofs.certificates.misplaced.Given as goal

abbrev pub invariant-loop-e : goal.invariant-loop-e
invariant-loop-e l = (k : ℕ) → k < l.e → MayHappen l.setting k (moments_of l.moments k)
