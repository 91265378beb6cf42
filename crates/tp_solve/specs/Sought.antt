-- The plans that a search keeps.
use Rattle.std.specs.Prelude.{◌≡◌, ℕ}
use Rattle.tp_task.specs.declared.task.Task.{Task}
use Rattle.tp_validate.specs.OfTask.{IsValidPlan}
use Rattle.tp_validate.specs.Validated.{Validated}
use Rattle.tp_search.specs.Plans.{EndsBy}

-- the plan is the task's, valid, and ends by the horizon
abbrev pub IsSought : Task → ℕ → Validated → Type 0
IsSought t horizon plan =
    (plan.task ≡ t) × EndsBy horizon plan.steps × IsValidPlan t plan.steps
