use Rattle.std.proofs.Common.{◌≡◌, ◌++◌, map, take}
use Rattle.std.specs.List.{flat_map}
use Rattle.tp_syntax_ast.specs.EffectViews.{timed_condition_view}
use Rattle.tp_ground_laws.specs.Needed.{timed_conjuncts}
use Rattle.tp_ground_joins.specs.Facts.{fact_seen}
use Rattle.tp_ground_joins.proofs.needed.+push_timed.Given as goal

abbrev pub invariant-push_all_timed-loop-part : goal.invariant-push_all_timed-loop-part
invariant-push_all_timed-loop-part l = map fact_seen l.into.items ≡ map fact_seen l.initial.into.items ++ flat_map (λ p. timed_conjuncts (timed_condition_view p)) (take l.part-index l.parts)
