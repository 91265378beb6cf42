use Rattle.std.proofs.Common.{◌≡◌, ◌++◌, drop}
use Rattle.std.specs.List.{flat_map}
use Rattle.tp_task.specs.State.{fluents_of}
use Rattle.tp_happen.proofs.mentions.push_limits.Given as goal

abbrev pub invariant-loop-limit : goal.invariant-loop-limit
invariant-loop-limit l = (l.into.items ++ (flat_map (λ w. fluents_of w.value)) (drop l.limit-index l.constraint)) ≡ (l.initial.into.items ++ (flat_map (λ w. fluents_of w.value)) l.constraint)
