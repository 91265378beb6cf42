use Rattle.std.proofs.Common.{◌≡◌, drop}
use Rattle.std.specs.List.{list_any}
use Rattle.tp_syntax_ast.specs.CondViews.{cond_view}
use Rattle.tp_ground.specs.Great.{great_condition}
use Rattle.tp_ground.proofs.numbers.+condition_is_great.Given as goal

abbrev pub invariant-some_condition_is_great-loop-cond : goal.invariant-some_condition_is_great-loop-cond
invariant-some_condition_is_great-loop-cond l = list_any (λ c. great_condition (cond_view c)) (drop l.cond-index l.conds) ≡ list_any (λ c. great_condition (cond_view c)) l.conds
