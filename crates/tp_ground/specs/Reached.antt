-- The relaxed reach of a problem, and the task of the actions that it keeps.
use Rattle.std.specs.Prelude.{◌≡◌, ◌<◌, Bool, true, false, not, ◌&&◌, ◌||◌, List, [], ◌∷◌, ◌++◌, map, length, filter}
use Rattle.std.specs.List.{flat_map, list_any}
use Rattle.tp_syntax_ast.specs.Symbols.{Name}
use Rattle.tp_syntax_ast.specs.Actions.{Action}
use Rattle.tp_syntax_ast.specs.Domains.{Domain}
use Rattle.tp_syntax_ast.specs.Problems.{Problem}
use Rattle.tp_bounds.specs.RunLimits.{RunLimits}
use Rattle.tp_text.specs.declared.number.Scale.{Scale}
use Rattle.tp_task.specs.Words.{Words, has_words, firsts}
use Rattle.tp_task.specs.Bounds.{In}
use Rattle.tp_ground_bindings.specs.Bindings.{Universe, bound, bindings, universe_of}
use Rattle.tp_ground_bodies.specs.Written.{GroundCondition, GroundConditions, atom, compared, negation, all_of, any_of, no_conditions, condition, GroundHappening, GroundBody, instant, durative, GroundAction, condition_in}
use Rattle.tp_ground_bodies.specs.Mentions.{Mentions, ◌then◌, of_condition, of_body, of_each}
use Rattle.tp_ground.specs.Great.{has_great_number}
use Rattle.tp_ground_bodies.specs.ReadBack.{named_condition, named_body}
use Rattle.tp_ground.specs.Initially.{GroundInitial, initial_in, of_initial, is_initially_true, initial_value}
use Rattle.tp_ground.specs.Grounding.{ground_action}
use Rattle.tp_task.specs.declared.fault.GroundFault.{GroundFault}
use Rattle.tp_task.specs.declared.fault.GroundFault.TheVariants as faults
use Rattle.tp_task.specs.declared.fault.TooManyKind.TheVariants as kinds
use Rattle.tp_task.specs.declared.task.Task.{Task}

-- A condition, or its negation, is met by a set of atoms: negations are moved inward, and a negated atom or a comparison counts as met.
abbrev mutual
  pub met : (Words → Bool) → Bool → GroundCondition → Bool
  met reach true (atom w) = reach w
  met reach false (atom w) = true
  met reach b (compared how x y) = true
  met reach b (negation c) = met reach (not b) c
  met reach true (all_of cs) = each_met reach true cs
  met reach false (all_of cs) = some_met reach false cs
  met reach true (any_of cs) = some_met reach true cs
  met reach false (any_of cs) = each_met reach false cs

  pub each_met : (Words → Bool) → Bool → GroundConditions → Bool
  each_met reach b no_conditions = true
  each_met reach b (condition c cs) = met reach b c && each_met reach b cs

  pub some_met : (Words → Bool) → Bool → GroundConditions → Bool
  some_met reach b no_conditions = false
  some_met reach b (condition c cs) = met reach b c || some_met reach b cs

-- what happens at an action's events
abbrev pub happenings_of : GroundBody → List GroundHappening
happenings_of (instant h) = h ∷ []
happenings_of (durative start end invariant) = start ∷ end ∷ []

-- A set of atoms that has the initial ones and, with the condition of an event, what it adds.
pub record IsClosed (initial : List GroundInitial) (acts : List GroundHappening)
    (reach : Words → Bool) : Type 0 where
  pub has_initial : (w : Words) → is_initially_true initial w ≡ true → reach w ≡ true
  pub has_added :
      (h : GroundHappening) → In h acts
      → met reach true h.condition ≡ true → (w : Words) → has_words h.adds w ≡ true → reach w ≡ true

-- The relaxed reach is the least such set.
pub record IsReach (initial : List GroundInitial) (acts : List GroundHappening)
    (reach : Words → Bool) : Type 0 where
  pub closed : IsClosed initial acts reach
  pub least :
      (other : Words → Bool)
      → IsClosed initial acts other → (w : Words) → reach w ≡ true → other w ≡ true

-- an action, and the objects that its parameters stand for
pub record Instance : Type 0 where
  pub action : Action
  pub objects : List Name

-- all type-correct bindings of all actions: actions in order of declaration, for each its bindings in order
abbrev pub instances : Universe → List Action → List Instance
instances u all =
    flat_map (λ a. map (λ objects. record { action = a; objects = objects }) (bindings u a.parameters)) all

abbrev pub action_of : Universe → Instance → GroundAction
action_of u i = ground_action u i.action i.objects

abbrev pub of_instance : Universe → Instance → Mentions
of_instance u i = of_body u (bound i.action.parameters i.objects) i.action.body

-- an action has an event whose condition the set meets
abbrev pub is_kept : (Words → Bool) → GroundBody → Bool
is_kept reach b = list_any (λ h. met reach true h.condition) (happenings_of b)

-- the events of all ground actions
abbrev pub all_happenings : Domain → Problem → List GroundHappening
all_happenings d p =
    flat_map (λ i. happenings_of (action_of (universe_of d p) i).body) (instances (universe_of d p) d.actions)

-- These are the ground actions, in order, that have an event whose condition is met in the relaxed reach.
pub record AreKept (d : Domain) (p : Problem) (kept : List Instance) : Type 0 where
  pub reach : Words → Bool
  pub is_reach : IsReach (map initial_in p.initial) (all_happenings d p) reach
  pub are :
      kept
      ≡ filter (λ i. is_kept reach (action_of (universe_of d p) i).body) (instances (universe_of d p) d.actions)

-- what ':init', the goal or one of these actions mentions
abbrev pub mentioned_of : Domain → Problem → List Instance → Mentions
mentioned_of d p is =
    of_each of_initial (map initial_in p.initial)
    then of_condition (condition_in (universe_of d p) [] p.goal)
    then of_each (of_instance (universe_of d p)) is

-- The task of these actions.
pub record IsTaskOf (limits : RunLimits) (scale : Scale) (d : Domain) (p : Problem)
    (is : List Instance) (t : Task) : Type 0 where
  pub same_limits : t.limits ≡ limits
  pub same_scale : t.scale ≡ scale
  pub atoms : t.numbering.atoms ≡ firsts (mentioned_of d p is).atoms
  pub fluents : t.numbering.fluents ≡ firsts (mentioned_of d p is).fluents
  pub names : t.numbering.actions ≡ map (λ i. (action_of (universe_of d p) i).words) is
  pub bodies :
      map (named_body t.numbering) t.actions.items
      ≡ map (λ i. (action_of (universe_of d p) i).body) is
  pub goal : named_condition t.numbering t.goal ≡ condition_in (universe_of d p) [] p.goal
  pub initial_atoms :
      t.initial_atoms.items ≡ map (is_initially_true (map initial_in p.initial)) t.numbering.atoms
  pub initial_numbers :
      t.initial_numbers.items ≡ map (initial_value (map initial_in p.initial)) t.numbering.fluents

-- The task of the actions that the relaxed reach keeps.
pub record IsReachedTask (limits : RunLimits) (scale : Scale) (d : Domain) (p : Problem)
    (t : Task) : Type 0 where
  pub kept : List Instance
  pub are_kept : AreKept d p kept
  pub task : IsTaskOf limits scale d p kept t

-- what is so of the actions that the relaxed reach keeps
abbrev pub OfKept : Domain → Problem → (List Instance → Type 0) → Type 0
OfKept d p So = (kept : List Instance) × AreKept d p kept × So kept

-- Why a problem has no such task within the limits. Out of memory says nothing.
abbrev pub HasNoReachedTask : RunLimits → Domain → Problem → GroundFault → Type 0
HasNoReachedTask limits d p faults.Memory = Unit {0}
HasNoReachedTask limits d p (faults.TooMany kinds.Objects) =
    65_535 < length (d.constants ++ p.objects)
HasNoReachedTask limits d p (faults.TooMany kinds.Atoms) =
    OfKept d p (λ is. limits.atoms < length (firsts (mentioned_of d p is).atoms))
HasNoReachedTask limits d p (faults.TooMany kinds.Fluents) =
    OfKept d p (λ is. limits.atoms < length (firsts (mentioned_of d p is).fluents))
HasNoReachedTask limits d p (faults.TooMany kinds.Actions) =
    OfKept d p (λ is. limits.actions < length is)
HasNoReachedTask limits d p faults.Range = has_great_number d p ≡ true
