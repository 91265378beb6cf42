use Rattle.std.specs.List.{All}
use Rattle.tp_bounds.specs.Schedule.{Meets}
use Rattle.tp_bounds.specs.Certificates.{moments_of}
use Rattle.tp_bounds.proofs.certificates.unmet.Given as goal

abbrev pub invariant-loop-id : goal.invariant-loop-id
invariant-loop-id l = All (λ p. Meets (moments_of l.moments) p.1.now) l.yielded
