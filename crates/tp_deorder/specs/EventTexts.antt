-- The texts of a plan's events: 'start STEP (NAME OBJECT ..)' and 'end STEP ..' of a durative step, 'at STEP ..' of another.
use Rattle.std.specs.Prelude.{ℕ, suc, Bool, true, false, List, [], ◌∷◌, ◌++◌, Option, Some, None, codes, decimal, slice_get, option_map}
use Rattle.tp_task.specs.declared.events.Body.{Body}
use Rattle.tp_task.specs.declared.events.Body.TheVariants.{Instant, Durative}
use Rattle.tp_task.specs.declared.task.Task.{Task}
use Rattle.tp_task.specs.Words.{Words, text_of_words}
use Rattle.tp_task.specs.Tables.{words_at}
use Rattle.tp_happen.specs.tp_plan_text.declared.plans.Step.{Step}

-- a word, the number of the step, and its action
abbrev pub event_line : List ℕ → ℕ → Words → List ℕ
event_line word k action = word ++ (decimal k ++ (codes " " ++ text_of_words action))

-- an action has a start and an end
abbrev pub has_two : Body → Bool
has_two (Instant e) = false
has_two (Durative start end invariant) = true

-- the texts of the events of a step, by whether its action has a start and an end
abbrev pub step_lines : ℕ → Words → Option Bool → List (List ℕ)
step_lines k action None = []
step_lines k action (Some false) = event_line (codes "at ") k action ∷ []
step_lines k action (Some true) =
    event_line (codes "start ") k action ∷ event_line (codes "end ") k action ∷ []

-- those of the events of steps, which are numbered from k
abbrev pub lines_from : Task → ℕ → List Step → List (List ℕ)
lines_from t k [] = []
lines_from t k (s ∷ ss) =
    step_lines k (words_at t.numbering.actions s.action.0)
    (option_map has_two (slice_get t.actions.items s.action.0)) ++ lines_from t (suc k) ss

abbrev pub event_lines : Task → List Step → List (List ℕ)
event_lines t steps = lines_from t 0 steps
