use Rattle.std.proofs.Common.{◌≡◌, drop}
use Rattle.std.specs.List.{list_any}
use Rattle.tp_syntax_ast.specs.ConstraintViews.{constraint_view}
use Rattle.tp_ground.specs.Great.{great_constraint}
use Rattle.tp_ground.proofs.numbers.+constraint_is_great.Given as goal

abbrev pub invariant-some_constraint_is_great-loop-constraint : goal.invariant-some_constraint_is_great-loop-constraint
invariant-some_constraint_is_great-loop-constraint l = list_any (λ r. great_constraint (constraint_view r)) (drop l.constraint-index l.constraints) ≡ list_any (λ r. great_constraint (constraint_view r)) l.constraints
