-- What numbered conditions, expressions, events and bodies say, with the words at each number put back.
use Rattle.std.specs.Prelude.{map}
use Rattle.tp_task.specs.Tables.{Tables, words_at}
use Rattle.tp_ground_bodies.specs.Written.{GroundExpression, number, fluent, the_duration, negative, sum, difference, product, GroundCondition, atom, compared, negation, all_of, any_of, conditions_from, GroundWrite, GroundLimit, GroundHappening, GroundBody, instant, durative}
use Rattle.tp_task.specs.declared.events.Expr.{Expr, fold-Expr}
use Rattle.tp_task.specs.declared.events.Expr.TheOpen.{Expr-F}
use Rattle.tp_task.specs.declared.events.Cond.{Cond, fold-Cond}
use Rattle.tp_task.specs.declared.events.Cond.TheOpen.{Cond-F}
use Rattle.tp_task.specs.declared.events.NumericEffect.{NumericEffect}
use Rattle.tp_task.specs.declared.events.Limit.{Limit}
use Rattle.tp_task.specs.declared.events.GroundEvent.{GroundEvent}
use Rattle.tp_task.specs.declared.events.Body.{Body}
use Rattle.tp_task.specs.declared.events.Body.TheVariants.{Instant, Durative}

abbrev pub named_expression_step : Tables → Expr-F GroundExpression → GroundExpression
named_expression_step t (Expr-F.Number n) = number n
named_expression_step t (Expr-F.Fluent f) = fluent (words_at t.fluents f)
named_expression_step t Expr-F.Duration = the_duration
named_expression_step t (Expr-F.Negated x) = negative x.value
named_expression_step t (Expr-F.Sum x y) = sum x.value y.value
named_expression_step t (Expr-F.Difference x y) = difference x.value y.value
named_expression_step t (Expr-F.Product x y) = product x.value y.value

abbrev pub named_expression : Tables → Expr → GroundExpression
named_expression t = fold-Expr GroundExpression (named_expression_step t)

abbrev pub named_condition_step : Tables → Cond-F GroundCondition → GroundCondition
named_condition_step t (Cond-F.Atom a) = atom (words_at t.atoms a)
named_condition_step t (Cond-F.Compare how x y) =
    compared how (named_expression t x.value) (named_expression t y.value)
named_condition_step t (Cond-F.Not c) = negation c.value
named_condition_step t (Cond-F.And cs) = all_of (conditions_from cs.items)
named_condition_step t (Cond-F.Or cs) = any_of (conditions_from cs.items)

abbrev pub named_condition : Tables → Cond → GroundCondition
named_condition t = fold-Cond GroundCondition (named_condition_step t)

abbrev pub named_write : Tables → NumericEffect → GroundWrite
named_write t w =
    record {
      change = w.change;
      fluent = words_at t.fluents w.fluent;
      value = named_expression t w.value;
    }

abbrev pub named_limit : Tables → Limit → GroundLimit
named_limit t l = record { how = l.how; value = named_expression t l.value }

abbrev pub named_event : Tables → GroundEvent → GroundHappening
named_event t e = record {
  condition = named_condition t e.condition;
  adds = map (words_at t.atoms) e.adds.items;
  deletes = map (words_at t.atoms) e.deletes.items;
  writes = map (named_write t) e.writes.items;
  constraint = map (named_limit t) e.constraint.items;
}

abbrev pub named_body : Tables → Body → GroundBody
named_body t (Instant e) = instant (named_event t e)
named_body t (Durative start end invariant) =
    durative (named_event t start) (named_event t end) (named_condition t invariant)
