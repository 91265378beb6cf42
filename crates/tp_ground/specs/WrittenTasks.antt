-- What is written out of a problem before its task is made.
use Rattle.std.specs.Prelude.{◌≡◌, ℕ, ◌<◌, List, map, length, false, None, slice_index_or}
use Rattle.tp_bounds.specs.RunLimits.{RunLimits}
use Rattle.tp_text.specs.declared.number.Scale.{Scale}
use Rattle.tp_task.specs.Tables.{Tables}
use Rattle.tp_ground_bodies.specs.Written.{GroundCondition, GroundBody}
use Rattle.tp_ground_bodies.specs.ReadBack.{named_condition, named_body}
use Rattle.tp_ground.specs.Initially.{GroundInitial, named_initial, true_at, value_at}
use Rattle.tp_ground.specs.declared.tasks.LoweredTask.{LoweredTask}
use Rattle.tp_task.specs.declared.task.Task.{Task}

-- the entries of ':init', the goal, and the bodies of the ground actions
pub record WrittenTask : Type 0 where
  pub initial : List GroundInitial
  pub goal : GroundCondition
  pub bodies : List GroundBody

abbrev pub named_task : Tables → LoweredTask → WrittenTask
named_task t l =
    record {
      initial = map (named_initial t) l.entries.items;
      goal = named_condition t l.goal;
      bodies = map (named_body t) l.actions.items;
    }

-- a task of these numbers, its truths and values at first by number
pub record IsMade (limits : RunLimits) (scale : Scale) (numbering : Tables) (l : LoweredTask)
    (t : Task) : Type 0 where
  pub same_limits : t.limits ≡ limits
  pub same_scale : t.scale ≡ scale
  pub same_numbering : t.numbering ≡ numbering
  pub same_actions : t.actions ≡ l.actions
  pub same_goal : t.goal ≡ l.goal
  pub atom_count : length t.initial_atoms.items ≡ length numbering.atoms
  pub atoms :
      (j : ℕ) → j < length numbering.atoms
      → slice_index_or t.initial_atoms.items j false ≡ true_at l.entries.items j
  pub fluent_count : length t.initial_numbers.items ≡ length numbering.fluents
  pub numbers :
      (j : ℕ) → j < length numbering.fluents
      → slice_index_or t.initial_numbers.items j None ≡ value_at l.entries.items j
