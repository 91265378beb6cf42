-- What an `Action`, a `Domain` and a `Problem` show.
use Rattle.std.specs.Prelude.{map, string_bytes}
use Rattle.tp_syntax_ast.specs.Terms.{atom_view}
use Rattle.tp_syntax_ast.specs.Symbols.{typed_view, parent_view, signature_view}
use Rattle.tp_syntax_ast.specs.CondViews.{cond_view}
use Rattle.tp_syntax_ast.specs.ConstraintViews.{constraint_view}
use Rattle.tp_syntax_ast.specs.EffectViews.{effect_view, timed_condition_view, timed_effect_view}
use Rattle.tp_syntax_ast.specs.Actions as actions
use Rattle.tp_syntax_ast.specs.Actions.{instant, durative}
use Rattle.tp_syntax_ast.specs.Domains as domains
use Rattle.tp_syntax_ast.specs.Problems as problems
use Rattle.tp_syntax_ast.specs.Problems.{holds, fails, has_value}
use Rattle.tp_syntax_ast.specs.declared.action.Body.{Body}
use Rattle.tp_syntax_ast.specs.declared.action.Body.TheVariants.{Instant, Durative}
use Rattle.tp_syntax_ast.specs.declared.action.Action.{Action}
use Rattle.tp_syntax_ast.specs.declared.domain.Domain.{Domain}
use Rattle.tp_syntax_ast.specs.declared.problem.Initial.{Initial}
use Rattle.tp_syntax_ast.specs.declared.problem.Initial.TheVariants.{Holds, Fails, HasValue}
use Rattle.tp_syntax_ast.specs.declared.problem.Problem.{Problem}

abbrev pub body_view : Body → actions.Body
body_view (Instant c e) = instant (cond_view c) (effect_view e)
body_view (Durative r c e) = durative (constraint_view r) (timed_condition_view c) (timed_effect_view e)

abbrev pub action_view : Action → actions.Action
action_view a =
    record {
      name = string_bytes a.name;
      parameters = map typed_view a.parameters.items;
      body = body_view a.body;
    }

abbrev pub domain_view : Domain → domains.Domain
domain_view d = record {
  name = string_bytes d.name;
  requirements = map string_bytes d.requirements.items;
  types = map parent_view d.types.items;
  constants = map typed_view d.constants.items;
  predicates = map signature_view d.predicates.items;
  functions = map signature_view d.functions.items;
  actions = map action_view d.actions.items;
}

abbrev pub initial_view : Initial → problems.Initial
initial_view (Holds a) = holds (atom_view a)
initial_view (Fails a) = fails (atom_view a)
initial_view (HasValue a n) = has_value (atom_view a) n

abbrev pub problem_view : Problem → problems.Problem
problem_view p = record {
  name = string_bytes p.name;
  objects = map typed_view p.objects.items;
  initial = map initial_view p.initial.items;
  goal = cond_view p.goal;
}
