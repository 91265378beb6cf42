-- A task, as plan texts speak of it.
use Rattle.std.specs.Prelude.{Bool, true, false, List, [], ◌∷◌, length, min, Option, Some, None, option_map, slice_get}
use Rattle.std.specs.List.{position_from}
use Rattle.tp_task.specs.Words.{Words, same_words}
use Rattle.tp_task.specs.Tables.{words_at}
use Rattle.tp_task.specs.declared.events.Body.{Body}
use Rattle.tp_task.specs.declared.events.Body.TheVariants.{Instant, Durative}
use Rattle.tp_task.specs.declared.task.ActionId.{ActionId}
use Rattle.tp_task.specs.declared.task.Task.{Task}
use Rattle.tp_plan_text.specs.PlanTexts.{ReadableTask}

abbrev pub is_durative : Option Body → Bool
is_durative None = false
is_durative (Some (Instant e)) = false
is_durative (Some (Durative start end invariant)) = true

-- the first action of these words
abbrev pub action_of : List Words → Words → Option ActionId
action_of actions [] = None
action_of actions (w ∷ ws) =
    option_map (λ n. record { 0 = n }) (position_from (same_words (w ∷ ws)) 0 actions)

-- no horizon passes 10^9
abbrev pub readable : Task → ReadableTask
readable task =
    record {
      scale = task.scale;
      horizon = min task.limits.horizon 1000000000;
      count = length task.actions.items;
      action = action_of task.numbering.actions;
      is_durative = λ a. is_durative (slice_get task.actions.items a.0);
      words = λ a. words_at task.numbering.actions a.0;
    }
