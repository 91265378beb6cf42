use Rattle.std.proofs.Common.{◌≡◌, ◌++◌, drop, map, not}
use Rattle.std.specs.List.{filter}
use Rattle.tp_task.specs.Event.{is_additive}
use Rattle.tp_happen.proofs.mentions.push_set.Given as goal

abbrev pub invariant-loop-effect : goal.invariant-loop-effect
invariant-loop-effect l = (l.into.items ++ map (λ w. w.fluent) (filter (λ w. not (is_additive w.change)) (drop l.effect-index l.effects))) ≡ (l.initial.into.items ++ map (λ w. w.fluent) (filter (λ w. not (is_additive w.change)) l.effects))
