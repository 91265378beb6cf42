use Rattle.std.proofs.Common.{◌≡◌, ◌++◌, map, take}
use Rattle.std.specs.List.{flat_map}
use Rattle.tp_syntax_ast.specs.CondViews.{cond_view}
use Rattle.tp_ground_laws.specs.Needed.{conjuncts}
use Rattle.tp_ground_joins.specs.Facts.{fact_seen}
use Rattle.tp_ground_joins.proofs.needed.+push_conjuncts.Given as goal

abbrev pub invariant-push_all_conjuncts-loop-cond : goal.invariant-push_all_conjuncts-loop-cond
invariant-push_all_conjuncts-loop-cond l = map fact_seen l.into.items ≡ map fact_seen l.initial.into.items ++ flat_map (λ c. conjuncts (cond_view c)) (take l.cond-index l.conds)
