-- The task of the ground actions for which names and objects ask.
use Rattle.std.specs.Prelude.{◌≡◌, ◌<◌, true, List, [], ◌∷◌, ◌++◌, map, length, filter}
use Rattle.tp_syntax_ast.specs.Actions.{Action}
use Rattle.tp_syntax_ast.specs.Conditions.{Condition}
use Rattle.tp_syntax_ast.specs.Domains.{Domain}
use Rattle.tp_syntax_ast.specs.Problems.{Initial, Problem}
use Rattle.tp_bounds.specs.RunLimits.{RunLimits}
use Rattle.tp_task.specs.Tables.{Tables}
use Rattle.tp_task.specs.Words.{Words, has_words, firsts}
use Rattle.tp_task.specs.declared.fault.GroundFault.{GroundFault}
use Rattle.tp_task.specs.declared.fault.GroundFault.TheVariants as faults
use Rattle.tp_task.specs.declared.fault.TooManyKind.TheVariants as kinds
use Rattle.tp_ground_bindings.specs.Bindings.{Universe, universe_of}
use Rattle.tp_ground_bindings.specs.Views.{universe_view}
use Rattle.tp_ground_bodies.specs.Written.{GroundCondition, condition_in}
use Rattle.tp_ground_bodies.specs.Mentions.{Mentions, ◌then◌, of_condition, of_each}
use Rattle.tp_ground_bodies.specs.ReadBack.{named_condition}
use Rattle.tp_ground_bodies.specs.Lowered.{IsLowered}
use Rattle.tp_ground.specs.Great.{has_great_number}
use Rattle.tp_ground.specs.Initially.{GroundInitial, initial_in, of_initial, named_initial}
use Rattle.tp_ground.specs.Reached.{Instance, instances, mentioned_of}
use Rattle.tp_ground_named.specs.declared.named.Begun.{Begun}
use Rattle.tp_ground_named.specs.declared.named.Ends.{Ends}

-- the name of an action, and then its objects
abbrev pub words_of : Instance → Words
words_of i = i.action.name ∷ i.objects

-- The type-correct bindings, in order, for which names and objects ask. There is no limit on the bindings.
abbrev pub chosen_of : Universe → List Action → List Words → List Instance
chosen_of u actions asked = filter (λ i. has_words asked (words_of i)) (instances u actions)

abbrev pub chosen : Domain → Problem → List Words → List Instance
chosen d p asked = chosen_of (universe_of d p) d.actions asked

-- what ':init' and the goal say
pub record WrittenEnds : Type 0 where
  pub initial : List GroundInitial
  pub goal : GroundCondition

abbrev pub written_ends : Universe → List Initial → Condition → WrittenEnds
written_ends u entries goal =
    record { initial = map initial_in entries; goal = condition_in u [] goal }

abbrev pub named_ends : Tables → Ends → WrittenEnds
named_ends t e =
    record { initial = map (named_initial t) e.entries.items; goal = named_condition t e.goal }

-- what they mention
abbrev pub of_ends : Universe → List Initial → Condition → Mentions
of_ends u entries goal =
    of_each of_initial (map initial_in entries) then of_condition (condition_in u [] goal)

-- All that ':init' and the goal mention is numbered, and nothing else.
pub record IsBegun (limits : RunLimits) (d : Domain) (p : Problem) (b : Begun) : Type 0 where
  pub of_universe : universe_view b.universe ≡ universe_of d p
  pub none : Tables
  pub empty : none ≡ record { atoms = []; fluents = []; actions = []; most = limits.atoms }
  pub lowered :
      IsLowered named_ends none b.numbering b.ends (written_ends (universe_of d p) p.initial p.goal)
      (of_ends (universe_of d p) p.initial p.goal)

-- Why a problem has no task of these ground actions within the limits. Out of memory says nothing.
abbrev pub HasNoTaskOf : RunLimits → Domain → Problem → List Instance → GroundFault → Type 0
HasNoTaskOf limits d p is faults.Memory = Unit {0}
HasNoTaskOf limits d p is (faults.TooMany kinds.Objects) = 65_535 < length (d.constants ++ p.objects)
HasNoTaskOf limits d p is (faults.TooMany kinds.Atoms) =
    limits.atoms < length (firsts (mentioned_of d p is).atoms)
HasNoTaskOf limits d p is (faults.TooMany kinds.Fluents) =
    limits.atoms < length (firsts (mentioned_of d p is).fluents)
HasNoTaskOf limits d p is (faults.TooMany kinds.Actions) = limits.actions < length is
HasNoTaskOf limits d p is faults.Range = has_great_number d p ≡ true
