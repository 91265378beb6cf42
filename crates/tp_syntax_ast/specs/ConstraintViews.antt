-- What a `DurationRule` shows.
use Rattle.tp_syntax_ast.specs.ExprViews.{expr_view}
use Rattle.tp_syntax_ast.specs.Effects.{Constraint, all_constraints, constraint, constraints_in}
use Rattle.tp_syntax_ast.specs.declared.constraint.DurationRule.{DurationRule, fold-DurationRule}
use Rattle.tp_syntax_ast.specs.declared.constraint.DurationRule.TheOpen.{DurationRule-F}

abbrev pub constraint_step : DurationRule-F Constraint → Constraint
constraint_step (DurationRule-F.And v) = all_constraints (constraints_in v.items)
constraint_step (DurationRule-F.Limit op x) = constraint op (expr_view x)

abbrev pub constraint_view : DurationRule → Constraint
constraint_view = fold-DurationRule Constraint constraint_step
