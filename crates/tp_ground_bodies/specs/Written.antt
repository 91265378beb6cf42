-- What is written out over the objects: expressions, conditions, effects and actions in which each atom and each fluent
-- stands by its words.
use Rattle.std.specs.Prelude.{ℕ, List, [], ◌∷◌, ◌++◌, map, Bool, ◌==◌, if◌then◌else◌, ℤ}
use Rattle.std.specs.List.{flat_map}
use Rattle.std.specs.Str.{bytes_eq}
use Rattle.tp_syntax_ast.specs.Terms.{Argument}
use Rattle.tp_syntax_ast.specs.Symbols.{Declared}
use Rattle.tp_syntax_ast.specs.Expressions as expressions
use Rattle.tp_syntax_ast.specs.Expressions.{Expression}
use Rattle.tp_syntax_ast.specs.Conditions as conditions
use Rattle.tp_syntax_ast.specs.Conditions.{Condition, Conditions}
use Rattle.tp_syntax_ast.specs.Parts.{Joined, Parts, all_parts, for_each, one, no_parts, part}
use Rattle.tp_syntax_ast.specs.Effects as effects
use Rattle.tp_syntax_ast.specs.Effects.{SimpleEffect, Effect, Timed, Constraint, Constraints, all_constraints, no_constraints, more_constraints}
use Rattle.tp_syntax_ast.specs.Actions as actions
use Rattle.tp_syntax_ast.specs.declared.words.Comparison as syntax
use Rattle.tp_syntax_ast.specs.declared.words.Comparison.TheVariants as comparisons
use Rattle.tp_syntax_ast.specs.declared.words.Writing.{Writing}
use Rattle.tp_syntax_ast.specs.declared.words.Writing.TheVariants as writings
use Rattle.tp_syntax_ast.specs.declared.words.TimeSpecifier.{TimeSpecifier}
use Rattle.tp_syntax_ast.specs.declared.words.TimeSpecifier.TheVariants.{AtStart, OverAll, AtEnd}
use Rattle.tp_task.specs.declared.events.Comparison.{Comparison}
use Rattle.tp_task.specs.declared.events.Comparison.TheVariants.{Less, AtMost, Equal, AtLeast, Greater}
use Rattle.tp_task.specs.declared.events.Change.{Change}
use Rattle.tp_task.specs.declared.events.Change.TheVariants.{Assign, ScaleUp, Increase, Decrease}
use Rattle.tp_task.specs.Words.{Words}
use Rattle.tp_ground_bindings.specs.Bindings.{Universe, Env, bindings, bound, object_for, words_in}

pub data GroundExpression : Type 0 where
  number : ℤ → GroundExpression
  fluent : Words → GroundExpression
  the_duration : GroundExpression
  negative : GroundExpression → GroundExpression
  sum : GroundExpression → GroundExpression → GroundExpression
  difference : GroundExpression → GroundExpression → GroundExpression
  product : GroundExpression → GroundExpression → GroundExpression

mutual
  pub data GroundCondition : Type 0 where
    atom : Words → GroundCondition
    compared : Comparison → GroundExpression → GroundExpression → GroundCondition
    negation : GroundCondition → GroundCondition
    all_of : GroundConditions → GroundCondition
    any_of : GroundConditions → GroundCondition

  pub data GroundConditions : Type 0 where
    no_conditions : GroundConditions
    condition : GroundCondition → GroundConditions → GroundConditions

abbrev pub conditions_from : List GroundCondition → GroundConditions
conditions_from [] = no_conditions
conditions_from (c ∷ cs) = condition c (conditions_from cs)

-- what a write does to a fluent
pub record GroundWrite : Type 0 where
  pub change : Change
  pub fluent : Words
  pub value : GroundExpression

-- one change of an event
pub data GroundEffect : Type 0 where
  adds : Words → GroundEffect
  deletes : Words → GroundEffect
  writes : GroundWrite → GroundEffect

-- one comparison of the duration with a value
pub record GroundLimit : Type 0 where
  pub how : Comparison
  pub value : GroundExpression

-- what is asked and what is done at one moment; a start has its action's duration constraint
pub record GroundHappening : Type 0 where
  pub condition : GroundCondition
  pub adds : List Words
  pub deletes : List Words
  pub writes : List GroundWrite
  pub constraint : List GroundLimit

-- one event, or a start, an end and what holds between them
pub data GroundBody : Type 0 where
  instant : GroundHappening → GroundBody
  durative : GroundHappening → GroundHappening → GroundCondition → GroundBody

-- an action with the objects that its parameters stand for
pub record GroundAction : Type 0 where
  pub words : Words
  pub body : GroundBody

-- ---- expressions

abbrev pub expression_in : Env → Expression → GroundExpression
expression_in env (expressions.number n) = number n
expression_in env (expressions.fluent f) = fluent (words_in env f)
expression_in env (expressions.sum x y) = sum (expression_in env x) (expression_in env y)
expression_in env (expressions.negative x) = negative (expression_in env x)
expression_in env (expressions.difference x y) =
    difference (expression_in env x) (expression_in env y)
expression_in env (expressions.product x y) = product (expression_in env x) (expression_in env y)
expression_in env expressions.the_duration = the_duration

abbrev pub comparison_of : syntax.Comparison → Comparison
comparison_of comparisons.Less = Less
comparison_of comparisons.AtMost = AtMost
comparison_of comparisons.Equal = Equal
comparison_of comparisons.AtLeast = AtLeast
comparison_of comparisons.Greater = Greater

-- ---- conditions

-- what variables stand for, under each of their bindings
abbrev pub inner : Universe → Env → List Declared → List Env
inner u env vs = map (λ objects. bound vs objects ++ env) (bindings u vs)

abbrev pub always : GroundCondition
always = all_of no_conditions

abbrev pub never : GroundCondition
never = any_of no_conditions

-- an equality of objects holds or doesn't
abbrev pub same_in : Env → Argument → Argument → GroundCondition
same_in env a b = if bytes_eq (object_for env a) (object_for env b) then always else never

abbrev pub compared_in : Env → syntax.Comparison → Expression → Expression → GroundCondition
compared_in env how x y = compared (comparison_of how) (expression_in env x) (expression_in env y)

abbrev pub either : GroundCondition → GroundCondition → GroundCondition
either c d = any_of (condition c (condition d no_conditions))

-- 'imply' is the second or not the first; 'forall' and 'exists' are all and any of the bindings
abbrev mutual
  pub condition_in : Universe → Env → Condition → GroundCondition
  condition_in u env (conditions.all_of cs) = all_of (conditions_from (conditions_in u env cs))
  condition_in u env (conditions.any_of cs) = any_of (conditions_from (conditions_in u env cs))
  condition_in u env (conditions.negation c) = negation (condition_in u env c)
  condition_in u env (conditions.implies c d) =
      either (negation (condition_in u env c)) (condition_in u env d)
  condition_in u env (conditions.for_all vs c) =
      all_of (conditions_from (map (λ e. condition_in u e c) (inner u env vs)))
  condition_in u env (conditions.for_some vs c) =
      any_of (conditions_from (map (λ e. condition_in u e c) (inner u env vs)))
  condition_in u env (conditions.fact f) = atom (words_in env f)
  condition_in u env (conditions.same a b) = same_in env a b
  condition_in u env (conditions.compared how x y) = compared_in env how x y

  pub conditions_in : Universe → Env → Conditions → List GroundCondition
  conditions_in u env conditions.no_conditions = []
  conditions_in u env (conditions.condition c cs) = condition_in u env c ∷ conditions_in u env cs

-- ---- parts: 'and' in order, 'forall' for each binding

abbrev mutual
  pub parts_in : {A B : Type 0} → Universe → (Env → A → List B) → Env → Joined A → List B
  parts_in u each env (all_parts ps) = all_parts_in u each env ps
  parts_in u each env (for_each vs p) = flat_map (λ e. parts_in u each e p) (inner u env vs)
  parts_in u each env (one a) = each env a

  pub all_parts_in : {A B : Type 0} → Universe → (Env → A → List B) → Env → Parts A → List B
  all_parts_in u each env no_parts = []
  all_parts_in u each env (part p ps) = parts_in u each env p ++ all_parts_in u each env ps

-- ---- effects

abbrev pub change_of : Writing → Change
change_of writings.Assign = Assign
change_of writings.Increase = Increase
change_of writings.Decrease = Decrease
change_of writings.ScaleUp = ScaleUp

abbrev pub simple_effect_in : Env → SimpleEffect → GroundEffect
simple_effect_in env (effects.adds f) = adds (words_in env f)
simple_effect_in env (effects.deletes f) = deletes (words_in env f)
simple_effect_in env (effects.writes w f x) =
    writes (record { change = change_of w; fluent = words_in env f; value = expression_in env x })

-- a simple effect is one wherever it stands
abbrev pub simple_effect_part : Universe → TimeSpecifier → Env → SimpleEffect → List GroundEffect
simple_effect_part u m env o = simple_effect_in env o ∷ []

abbrev pub simple_effects_in : Universe → Env → Effect → List GroundEffect
simple_effects_in u env e = parts_in u (simple_effect_part u AtStart) env e

abbrev pub added : List GroundEffect → List Words
added [] = []
added (adds w ∷ os) = w ∷ added os
added (deletes w ∷ os) = added os
added (writes w ∷ os) = added os

abbrev pub deleted : List GroundEffect → List Words
deleted [] = []
deleted (adds w ∷ os) = deleted os
deleted (deletes w ∷ os) = w ∷ deleted os
deleted (writes w ∷ os) = deleted os

abbrev pub written : List GroundEffect → List GroundWrite
written [] = []
written (adds w ∷ os) = written os
written (deletes w ∷ os) = written os
written (writes w ∷ os) = w ∷ written os

-- ---- conditions and effects of a durative action, at one time specifier

abbrev pub specifier_number : TimeSpecifier → ℕ
specifier_number AtStart = 0
specifier_number OverAll = 1
specifier_number AtEnd = 2

abbrev pub is_specifier : TimeSpecifier → TimeSpecifier → Bool
is_specifier m n = specifier_number m == specifier_number n

-- what one part gives there: nothing at another specifier
abbrev pub condition_part : Universe → TimeSpecifier → Env → Timed Condition → List GroundCondition
condition_part u m env t = if is_specifier t.specifier m then condition_in u env t.what ∷ [] else []

abbrev pub simple_effects_part : Universe → TimeSpecifier → Env → Timed Effect → List GroundEffect
simple_effects_part u m env t = if is_specifier t.specifier m then simple_effects_in u env t.what else []

abbrev pub conjuncts_at : Universe → TimeSpecifier → Env → Joined (Timed Condition) → List GroundCondition
conjuncts_at u m env c = parts_in u (condition_part u m) env c

abbrev pub condition_at : Universe → TimeSpecifier → Env → Joined (Timed Condition) → GroundCondition
condition_at u m env c = all_of (conditions_from (conjuncts_at u m env c))

abbrev pub simple_effects_at : Universe → TimeSpecifier → Env → Joined (Timed Effect) → List GroundEffect
simple_effects_at u m env e = parts_in u (simple_effects_part u m) env e

-- ---- duration constraints

abbrev mutual
  pub limits_in : Env → Constraint → List GroundLimit
  limits_in env (all_constraints rs) = all_limits_in env rs
  limits_in env (effects.constraint how x) =
      record { how = comparison_of how; value = expression_in env x } ∷ []

  pub all_limits_in : Env → Constraints → List GroundLimit
  all_limits_in env no_constraints = []
  all_limits_in env (more_constraints r rs) = limits_in env r ++ all_limits_in env rs

-- ---- actions

abbrev pub happening : GroundCondition → List GroundEffect → List GroundLimit → GroundHappening
happening c os ls =
    record { condition = c; adds = added os; deletes = deleted os; writes = written os; constraint = ls }

abbrev pub instant_in : Universe → Env → Condition → Effect → GroundHappening
instant_in u env c e = happening (condition_in u env c) (simple_effects_in u env e) []

abbrev pub start_in :
    Universe → Env → Constraint → Joined (Timed Condition) → Joined (Timed Effect) → GroundHappening
start_in u env r c e =
    happening (condition_at u AtStart env c) (simple_effects_at u AtStart env e) (limits_in env r)

abbrev pub end_in :
    Universe → Env → Joined (Timed Condition) → Joined (Timed Effect) → GroundHappening
end_in u env c e = happening (condition_at u AtEnd env c) (simple_effects_at u AtEnd env e) []

abbrev pub body_in : Universe → Env → actions.Body → GroundBody
body_in u env (actions.instant c e) = instant (instant_in u env c e)
body_in u env (actions.durative r c e) =
    durative (start_in u env r c e) (end_in u env c e) (condition_at u OverAll env c)
