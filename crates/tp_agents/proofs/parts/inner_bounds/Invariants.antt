use Rattle.std.proofs.Common.{◌≡◌, map}
use Rattle.std.specs.List.{filter_map}
use Rattle.tp_agents.specs.Parts.{inner_of}
use Rattle.tp_agents.proofs.parts.inner_bounds.Given as goal

abbrev pub invariant-loop-bound : goal.invariant-loop-bound
invariant-loop-bound l = l.bounds.items ≡ filter_map (inner_of l.split.owners.items l.agent) (map (λ b. b.now) l.yielded)
