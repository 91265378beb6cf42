-- Numbers past 10^15 in absolute value, in a domain's actions and in a problem.
use Rattle.std.specs.Prelude.{Bool, false, ◌||◌, ℤ, nat_lt, unsigned_abs}
use Rattle.std.specs.List.{list_any}
use Rattle.tp_syntax_ast.specs.Expressions as expressions
use Rattle.tp_syntax_ast.specs.Expressions.{Expression}
use Rattle.tp_syntax_ast.specs.Conditions as conditions
use Rattle.tp_syntax_ast.specs.Conditions.{Condition, Conditions}
use Rattle.tp_syntax_ast.specs.Parts.{Joined, Parts, all_parts, for_each, one, no_parts, part}
use Rattle.tp_syntax_ast.specs.Effects as effects
use Rattle.tp_syntax_ast.specs.Effects.{SimpleEffect, Effect, Timed, Constraint, Constraints, all_constraints, no_constraints, more_constraints}
use Rattle.tp_syntax_ast.specs.Actions as actions
use Rattle.tp_syntax_ast.specs.Domains.{Domain}
use Rattle.tp_syntax_ast.specs.Problems as problems
use Rattle.tp_syntax_ast.specs.Problems.{Initial, Problem}

abbrev pub is_great : ℤ → Bool
is_great n = nat_lt 1000000000000000 (unsigned_abs n)

abbrev pub great_expression : Expression → Bool
great_expression (expressions.number n) = is_great n
great_expression (expressions.fluent f) = false
great_expression (expressions.sum x y) = great_expression x || great_expression y
great_expression (expressions.negative x) = great_expression x
great_expression (expressions.difference x y) = great_expression x || great_expression y
great_expression (expressions.product x y) = great_expression x || great_expression y
great_expression expressions.the_duration = false

abbrev mutual
  pub great_condition : Condition → Bool
  great_condition (conditions.all_of cs) = great_conditions cs
  great_condition (conditions.any_of cs) = great_conditions cs
  great_condition (conditions.negation c) = great_condition c
  great_condition (conditions.implies c d) = great_condition c || great_condition d
  great_condition (conditions.for_all vs c) = great_condition c
  great_condition (conditions.for_some vs c) = great_condition c
  great_condition (conditions.fact f) = false
  great_condition (conditions.same a b) = false
  great_condition (conditions.compared how x y) = great_expression x || great_expression y

  pub great_conditions : Conditions → Bool
  great_conditions conditions.no_conditions = false
  great_conditions (conditions.condition c cs) = great_condition c || great_conditions cs

abbrev mutual
  pub great_part : {A : Type 0} → (A → Bool) → Joined A → Bool
  great_part great (all_parts ps) = great_parts great ps
  great_part great (for_each vs p) = great_part great p
  great_part great (one a) = great a

  pub great_parts : {A : Type 0} → (A → Bool) → Parts A → Bool
  great_parts great no_parts = false
  great_parts great (part p ps) = great_part great p || great_parts great ps

abbrev pub great_simple_effect : SimpleEffect → Bool
great_simple_effect (effects.adds f) = false
great_simple_effect (effects.deletes f) = false
great_simple_effect (effects.writes w f x) = great_expression x

abbrev pub great_effect : Effect → Bool
great_effect e = great_part great_simple_effect e

abbrev pub great_timed : {A : Type 0} → (A → Bool) → Timed A → Bool
great_timed great t = great t.what

abbrev mutual
  pub great_constraint : Constraint → Bool
  great_constraint (all_constraints rs) = great_constraints rs
  great_constraint (effects.constraint how x) = great_expression x

  pub great_constraints : Constraints → Bool
  great_constraints no_constraints = false
  great_constraints (more_constraints r rs) = great_constraint r || great_constraints rs

abbrev pub great_body : actions.Body → Bool
great_body (actions.instant c e) = great_condition c || great_effect e
great_body (actions.durative r c e) =
    great_constraint r
    || (great_part (great_timed great_condition) c || great_part (great_timed great_effect) e)

abbrev pub great_initial : Initial → Bool
great_initial (problems.holds f) = false
great_initial (problems.fails f) = false
great_initial (problems.has_value f n) = is_great n

-- some number is past 10^15
abbrev pub has_great_number : Domain → Problem → Bool
has_great_number d p =
    list_any (λ a. great_body a.body) d.actions
    || (list_any great_initial p.initial || great_condition p.goal)
