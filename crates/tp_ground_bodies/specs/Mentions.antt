-- The atoms and the fluents that are mentioned, in order of mention.
use Rattle.std.specs.Prelude.{List, [], ◌∷◌, ◌++◌}
use Rattle.tp_syntax_ast.specs.Conditions.{Condition}
use Rattle.tp_syntax_ast.specs.Parts.{Joined}
use Rattle.tp_syntax_ast.specs.Effects.{Effect, Timed, Constraint}
use Rattle.tp_syntax_ast.specs.Actions as actions
use Rattle.tp_syntax_ast.specs.declared.words.TimeSpecifier.TheVariants.{AtStart, OverAll, AtEnd}
use Rattle.tp_task.specs.Words.{Words}
use Rattle.tp_ground_bindings.specs.Bindings.{Universe, Env}
use Rattle.tp_ground_bodies.specs.Written.{GroundExpression, number, fluent, the_duration, negative, sum, difference, product, GroundCondition, GroundConditions, atom, compared, negation, all_of, any_of, no_conditions, condition, GroundEffect, adds, deletes, writes, GroundLimit, simple_effects_in, simple_effects_at, limits_in, condition_in, condition_at}

-- the atoms, and the fluents
pub record Mentions : Type 0 where
  pub atoms : List Words
  pub fluents : List Words

abbrev pub nothing : Mentions
nothing = record { atoms = []; fluents = [] }

abbrev pub an_atom : Words → Mentions
an_atom w = record { atoms = w ∷ []; fluents = [] }

abbrev pub a_fluent : Words → Mentions
a_fluent w = record { atoms = []; fluents = w ∷ [] }

infixl 9 ◌then◌
abbrev pub ◌then◌ : Mentions → Mentions → Mentions
m then n = record { atoms = m.atoms ++ n.atoms; fluents = m.fluents ++ n.fluents }

abbrev pub of_expression : GroundExpression → Mentions
of_expression (number n) = nothing
of_expression (fluent w) = a_fluent w
of_expression the_duration = nothing
of_expression (negative x) = of_expression x
of_expression (sum x y) = of_expression x then of_expression y
of_expression (difference x y) = of_expression x then of_expression y
of_expression (product x y) = of_expression x then of_expression y

abbrev mutual
  pub of_condition : GroundCondition → Mentions
  of_condition (atom w) = an_atom w
  of_condition (compared how x y) = of_expression x then of_expression y
  of_condition (negation c) = of_condition c
  of_condition (all_of cs) = of_conditions cs
  of_condition (any_of cs) = of_conditions cs

  pub of_conditions : GroundConditions → Mentions
  of_conditions no_conditions = nothing
  of_conditions (condition c cs) = of_condition c then of_conditions cs

-- a write mentions its fluent, and then those of its value
abbrev pub of_simple_effect : GroundEffect → Mentions
of_simple_effect (adds w) = an_atom w
of_simple_effect (deletes w) = an_atom w
of_simple_effect (writes w) = a_fluent w.fluent then of_expression w.value

abbrev pub of_limit : GroundLimit → Mentions
of_limit l = of_expression l.value

-- of one after another
abbrev pub of_each : {X : Type 0} → (X → Mentions) → List X → Mentions
of_each of [] = nothing
of_each of (x ∷ xs) = of x then of_each of xs

-- Of an event: its condition, its simple effects in their order, and for a start the duration constraint.
abbrev pub of_instant : Universe → Env → Condition → Effect → Mentions
of_instant u env c e =
    of_condition (condition_in u env c) then of_each of_simple_effect (simple_effects_in u env e)

abbrev pub of_start :
    Universe → Env → Constraint → Joined (Timed Condition) → Joined (Timed Effect) → Mentions
of_start u env r c e =
    of_condition (condition_at u AtStart env c)
    then of_each of_simple_effect (simple_effects_at u AtStart env e) then of_each of_limit (limits_in env r)

abbrev pub of_end : Universe → Env → Joined (Timed Condition) → Joined (Timed Effect) → Mentions
of_end u env c e =
    of_condition (condition_at u AtEnd env c) then of_each of_simple_effect (simple_effects_at u AtEnd env e)

-- of a durative action: its start, its end, and what holds between them
abbrev pub of_body : Universe → Env → actions.Body → Mentions
of_body u env (actions.instant c e) = of_instant u env c e
of_body u env (actions.durative r c e) =
    of_start u env r c e then of_end u env c e then of_condition (condition_at u OverAll env c)
