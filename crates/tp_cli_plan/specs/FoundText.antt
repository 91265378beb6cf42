-- The text of what a search came to: the plan, a line for each step, or a line that says why there is none.
use Rattle.std.specs.Prelude.{◌≡◌, ◌⊎◌, ℕ, List, ◌++◌, Bool, true, false, codes, decimal}
use Rattle.tp_task.specs.declared.task.Task.{Task}
use Rattle.tp_happen.specs.tp_plan_text.PlanPrints.{plan_text}
use Rattle.tp_happen.specs.tp_plan_text.PlanTexts.{IsAccepted, SpellsPlan}
use Rattle.tp_happen.specs.tp_plan_text.Steps.{IsPlan}
use Rattle.tp_happen.specs.tp_plan_text.TaskWords.{readable}
use Rattle.tp_happen.specs.tp_plan_text.declared.plans.Step.{Step}
use Rattle.tp_validate.specs.OfTask.{IsOfTask, IsValidPlan}
use Rattle.tp_search.specs.Plans.{EndsBy}
use Rattle.tp_search.specs.Promised.{IsExhausted, IsSpent, IsUnreachable}
use Rattle.tp_search.specs.declared.found.Found.{Found}
use Rattle.tp_search.specs.declared.found.Found.TheVariants.{Plan, Unreachable, Exhausted, Spent}

-- the budget is told as spent, and no plan was found
abbrev pub spent_line : ℕ → List ℕ
spent_line n = codes "spent " ++ (decimal n ++ codes "\n")

abbrev pub found_text : Found → List ℕ
found_text (Plan plan) = plan_text (readable plan.task) plan.steps
found_text Unreachable = codes "unreachable\n"
found_text Exhausted = codes "exhausted\n"
found_text (Spent n) = spent_line n

abbrev pub is_plan : Found → Bool
is_plan (Plan plan) = true
is_plan Unreachable = false
is_plan Exhausted = false
is_plan (Spent n) = false

-- the steps of a plan that was found are a plan, and its task's
abbrev pub IsFoundOfTask : Found → Type 0
IsFoundOfTask (Plan plan) = IsPlan plan.steps × IsOfTask plan.task plan.steps
IsFoundOfTask Unreachable = Unit {0}
IsFoundOfTask Exhausted = Unit {0}
IsFoundOfTask (Spent n) = Unit {0}

-- The text is that of a valid plan of the task, which ends by the horizon: it spells that plan, and is read as it.
pub record IsPlanText (task : Task) (horizon : ℕ) (text : List ℕ) : Type 0 where
  pub steps : List Step
  pub of_task : IsOfTask task steps
  pub valid : IsValidPlan task steps
  pub within : EndsBy horizon steps
  pub is : text ≡ plan_text (readable task) steps
  pub spells : SpellsPlan (readable task) text steps
  pub accepted : IsAccepted (readable task) text

-- The line says why no plan was found, and it is so.
abbrev pub IsNoPlanLine : Task → ℕ → List ℕ → Type 0
IsNoPlanLine task budget line =
    (IsUnreachable task × (line ≡ codes "unreachable\n"))
    ⊎ ((IsExhausted task × (line ≡ codes "exhausted\n"))
    ⊎ (IsSpent task budget budget × (line ≡ spent_line budget)))
