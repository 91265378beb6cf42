-- How a plan is written: one line per step.
use Rattle.std.specs.Prelude.{◌≡◌, ℕ, zero, suc, ◌+◌, ◌/◌, ◌%◌, ◌≤◌, List, [], ◌∷◌, ◌++◌, Bool, true, false, map, codes, decimal, flat_map, Some}
use Rattle.std.specs.Char.{to_ascii_lowercase}
use Rattle.std.specs.List.{AllByRecursion}
use Rattle.tp_text.specs.Scales.{scale_ticks}
use Rattle.tp_text.specs.declared.number.Scale.{Scale}
use Rattle.tp_text.specs.declared.number.Scale.TheVariants.{One, Ten, Hundred, Thousand}
use Rattle.tp_task.specs.Readable.{are_names}
use Rattle.tp_plan_text.specs.declared.plans.Step.{Step}
use Rattle.tp_plan_text.specs.PlanTexts.{ReadableTask, SpellsPlan}

-- the last digit of a number
abbrev pub digit : ℕ → ℕ
digit n = 48 + n % 10

-- the decimals of a number of ticks: as many as the scale has
abbrev pub decimals : Scale → ℕ → List ℕ
decimals One n = []
decimals Ten n = 46 ∷ digit n ∷ []
decimals Hundred n = 46 ∷ digit (n / 10) ∷ digit n ∷ []
decimals Thousand n = 46 ∷ digit (n / 100) ∷ digit (n / 10) ∷ digit n ∷ []

-- a number of ticks as a time
abbrev pub time_text : Scale → ℕ → List ℕ
time_text scale n = decimal (n / scale_ticks scale) ++ decimals scale n

-- words with one space between
abbrev pub words_text : List (List ℕ) → List ℕ
words_text [] = []
words_text (w ∷ ws) = w ++ flat_map (λ v. 32 ∷ v) ws

-- what stands before the word at a place
abbrev pub space_before : ℕ → List ℕ
space_before zero = []
space_before (suc n) = 32 ∷ []

-- a duration in brackets for a durative action
abbrev pub end_text : Scale → Bool → ℕ → List ℕ
end_text scale true d = codes ") [" ++ (time_text scale d ++ 93 ∷ 10 ∷ [])
end_text scale false d = 41 ∷ 10 ∷ []

-- TIME: (NAME ARG ..) [DURATION]
abbrev pub step_text : ReadableTask → Step → List ℕ
step_text task s =
    (time_text task.scale s.tick ++ codes ": (") ++ (words_text (task.words s.action)
    ++ end_text task.scale (task.is_durative s.action) s.duration)

abbrev pub plan_text : ReadableTask → List Step → List ℕ
plan_text task steps = flat_map (step_text task) steps

-- A step of the task that ends within its horizon. Its action's words are names in lower case, and the action is the one of these words.
pub record IsReadable (task : ReadableTask) (s : Step) : Type 0 where
  pub names : are_names (task.words s.action) ≡ true
  pub lower : AllByRecursion (λ w. map to_ascii_lowercase w ≡ w) (task.words s.action)
  pub action : task.action (task.words s.action) ≡ Some s.action
  pub instant : task.is_durative s.action ≡ false → s.duration ≡ 0
  pub ends : s.tick + s.duration ≤ task.horizon

-- what is written for steps of a task spells them
abbrev pub PlansAreRead : Type 0
PlansAreRead =
    (task : ReadableTask) (steps : List Step) → task.horizon ≤ 1000000000
    → AllByRecursion (IsReadable task) steps → SpellsPlan task (plan_text task steps) steps
