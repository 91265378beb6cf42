-- The task of a problem.
use Rattle.std.specs.Prelude.{◌≡◌, ◌<◌, true, List, [], ◌∷◌, ◌++◌, map, length}
use Rattle.std.specs.List.{flat_map}
use Rattle.tp_syntax_ast.specs.Symbols.{Name}
use Rattle.tp_syntax_ast.specs.Actions.{Action}
use Rattle.tp_syntax_ast.specs.Domains.{Domain}
use Rattle.tp_syntax_ast.specs.Problems.{Problem}
use Rattle.tp_bounds.specs.RunLimits.{RunLimits}
use Rattle.tp_text.specs.declared.number.Scale.{Scale}
use Rattle.tp_task.specs.Words.{firsts}
use Rattle.tp_ground_bindings.specs.Bindings.{Universe, universe_of, bound, bindings}
use Rattle.tp_ground_bodies.specs.Written.{GroundAction, condition_in, body_in}
use Rattle.tp_ground_bodies.specs.Mentions.{Mentions, ◌then◌, of_condition, of_body, of_each}
use Rattle.tp_ground.specs.Great.{has_great_number}
use Rattle.tp_ground_bodies.specs.ReadBack.{named_condition, named_body}
use Rattle.tp_ground.specs.Initially.{initial_in, of_initial, is_initially_true, initial_value}
use Rattle.tp_task.specs.declared.fault.GroundFault.{GroundFault}
use Rattle.tp_task.specs.declared.fault.GroundFault.TheVariants as faults
use Rattle.tp_task.specs.declared.fault.TooManyKind.TheVariants as kinds
use Rattle.tp_task.specs.declared.task.Task.{Task}

-- an action under a binding of its parameters
abbrev pub ground_action : Universe → Action → List Name → GroundAction
ground_action u a objects =
    record { words = a.name ∷ objects; body = body_in u (bound a.parameters objects) a.body }

-- All type-correct bindings of all actions: actions in order of declaration, for each its bindings in order.
abbrev pub ground_actions : Universe → List Action → List GroundAction
ground_actions u all = flat_map (λ a. map (ground_action u a) (bindings u a.parameters)) all

abbrev pub of_action : Universe → Action → Mentions
of_action u a =
    of_each (λ objects. of_body u (bound a.parameters objects) a.body) (bindings u a.parameters)

-- what ':init', the goal or a ground action mentions
abbrev pub mentioned : Domain → Problem → Mentions
mentioned d p =
    of_each of_initial (map initial_in p.initial)
    then of_condition (condition_in (universe_of d p) [] p.goal)
    then of_each (of_action (universe_of d p)) d.actions

-- The task of a problem of a domain.
pub record IsTask (limits : RunLimits) (scale : Scale) (d : Domain) (p : Problem)
    (t : Task) : Type 0 where
  pub same_limits : t.limits ≡ limits
  pub same_scale : t.scale ≡ scale
  pub atoms : t.numbering.atoms ≡ firsts (mentioned d p).atoms
  pub fluents : t.numbering.fluents ≡ firsts (mentioned d p).fluents
  pub names : t.numbering.actions ≡ map (λ a. a.words) (ground_actions (universe_of d p) d.actions)
  pub bodies :
      map (named_body t.numbering) t.actions.items
      ≡ map (λ a. a.body) (ground_actions (universe_of d p) d.actions)
  pub goal : named_condition t.numbering t.goal ≡ condition_in (universe_of d p) [] p.goal
  pub initial_atoms :
      t.initial_atoms.items ≡ map (is_initially_true (map initial_in p.initial)) t.numbering.atoms
  pub initial_numbers :
      t.initial_numbers.items ≡ map (initial_value (map initial_in p.initial)) t.numbering.fluents

-- Why a problem has no task within the limits. Out of memory says nothing.
abbrev pub HasNoTask : RunLimits → Domain → Problem → GroundFault → Type 0
HasNoTask limits d p faults.Memory = Unit {0}
HasNoTask limits d p (faults.TooMany kinds.Objects) = 65_535 < length (d.constants ++ p.objects)
HasNoTask limits d p (faults.TooMany kinds.Atoms) =
    limits.atoms < length (firsts (mentioned d p).atoms)
HasNoTask limits d p (faults.TooMany kinds.Fluents) =
    limits.atoms < length (firsts (mentioned d p).fluents)
HasNoTask limits d p (faults.TooMany kinds.Actions) =
    limits.actions < length (ground_actions (universe_of d p) d.actions)
HasNoTask limits d p faults.Range = has_great_number d p ≡ true
