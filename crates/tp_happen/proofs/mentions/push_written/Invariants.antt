use Rattle.std.proofs.Common.{◌≡◌, ◌++◌, drop, map}
use Rattle.tp_happen.proofs.mentions.push_written.Given as goal

abbrev pub invariant-loop-effect : goal.invariant-loop-effect
invariant-loop-effect l = (l.into.items ++ (map (λ w. w.fluent)) (drop l.effect-index l.effects)) ≡ (l.initial.into.items ++ (map (λ w. w.fluent)) l.effects)
