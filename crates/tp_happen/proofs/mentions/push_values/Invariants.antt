use Rattle.std.proofs.Common.{◌≡◌, ◌++◌, drop}
use Rattle.std.specs.List.{flat_map}
use Rattle.tp_task.specs.State.{fluents_of}
use Rattle.tp_happen.proofs.mentions.push_values.Given as goal

abbrev pub invariant-loop-effect : goal.invariant-loop-effect
invariant-loop-effect l = (l.into.items ++ (flat_map (λ w. fluents_of w.value)) (drop l.effect-index l.effects)) ≡ (l.initial.into.items ++ (flat_map (λ w. fluents_of w.value)) l.effects)
