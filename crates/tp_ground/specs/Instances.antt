-- Actions with the objects that their parameters stand for, and what is written out of some of them.
use Rattle.std.specs.Prelude.{◌≡◌, ℕ, ◌<◌, Bool, true, false, List, [], map, length, slice_index_or}
use Rattle.std.specs.List.{flat_map, list_any}
use Rattle.tp_syntax_ast.specs.Conditions.{Condition}
use Rattle.tp_syntax_ast.specs.Problems.{Initial}
use Rattle.tp_task.specs.Reach.{met}
use Rattle.tp_task.specs.Words.{Words}
use Rattle.tp_task.specs.declared.events.Body.{Body}
use Rattle.tp_task.specs.Rounds.{set_of, acts_in, acts_of_bodies}
use Rattle.tp_task.specs.Adding.{Adds, IsSettled}
use Rattle.tp_ground_bindings.specs.Bindings.{Universe}
use Rattle.tp_ground_bodies.specs.Written.{condition_in}
use Rattle.tp_syntax_ast.specs.DomainViews.{action_view}
use Rattle.tp_ground_bodies.specs.Mentions.{Mentions, ◌then◌, of_condition, of_each}
use Rattle.tp_ground.specs.Initially.{GroundInitial, initial_in, of_initial, true_at}
use Rattle.tp_ground.specs.WrittenTasks.{WrittenTask}
use Rattle.tp_ground.specs.Reached.{Instance, action_of, of_instance, happenings_of, is_kept, IsReach}
use Rattle.tp_ground.specs.declared.instances.Instance as code
use Rattle.tp_ground.specs.declared.tasks.LoweredTask.{LoweredTask}

abbrev pub instance_view : code.Instance → Instance
instance_view i =
    record { action = action_view i.action.now; objects = map (λ o. o.now) i.objects.items }

-- the entries of ':init', the goal, and the bodies of these
abbrev pub written_with : Universe → List Initial → Condition → List Instance → WrittenTask
written_with u entries goal is =
    record {
      initial = map initial_in entries;
      goal = condition_in u [] goal;
      bodies = map (λ i. (action_of u i).body) is;
    }

abbrev pub of_task_with : Universe → List Initial → Condition → List Instance → Mentions
of_task_with u entries goal is =
    of_each of_initial (map initial_in entries)
    then of_condition (condition_in u [] goal) then of_each (of_instance u) is

-- an action has an event whose condition the atoms of these numbers meet
abbrev pub has_met : (ℕ → Bool) → Body → Bool
has_met reach b = list_any (λ e. met reach true e.condition) (acts_in b)

-- Which of some bodies are kept, where so much is true: those that have an event whose condition is met once what their
-- events can add is added.
pub record AreMet (old : List Bool) (bodies : List Body) (flags : List Bool) : Type 0 where
  pub reach : List Bool
  pub adds : Adds (acts_of_bodies bodies) old reach
  pub settled : IsSettled (acts_of_bodies bodies) reach
  pub are : flags ≡ map (has_met (set_of reach)) bodies

-- the same of what is lowered, of whose atoms there are so many
pub record AreReached (count : ℕ) (l : LoweredTask) (flags : List Bool) : Type 0 where
  pub first : List Bool
  pub first_count : length first ≡ count
  pub truths :
      (j : ℕ) → j < count → slice_index_or first j false ≡ true_at l.entries.items j
  pub met : AreMet first l.actions.items flags

-- Which of some instances have an event whose condition is met in their relaxed reach.
pub record AreFlags (u : Universe) (initial : List GroundInitial) (is : List Instance)
    (flags : List Bool) : Type 0 where
  pub reach : Words → Bool
  pub is_reach :
      IsReach initial (flat_map (λ i. happenings_of (action_of u i).body) is) reach
  pub are : flags ≡ map (λ i. is_kept reach (action_of u i).body) is
