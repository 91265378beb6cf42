-- What the validator answers.
use Rattle.std.specs.Prelude.{◌≡◌, ℕ, List}
use Rattle.tp_task.specs.declared.task.Task.{Task}
use Rattle.tp_task.specs.Verdict.{IsFirstFault}
use Rattle.tp_happen.specs.tp_plan_text.declared.plans.Step.{Step}
use Rattle.tp_validate.specs.OfTask.{scale_of, begin, plan_of, IsValidPlan}
use Rattle.tp_validate.specs.Verdict.{PassesIn}
use Rattle.tp_validate.specs.Found.{told}
use Rattle.tp_validate.specs.declared.ticks.Fault.{Fault}
use Rattle.tp_validate.specs.declared.verdicts.Verdict.{Verdict}
use Rattle.tp_validate.specs.declared.verdicts.Verdict.TheVariants.{Valid, Invalid}
use Rattle.tp_validate.specs.declared.verdicts.ValidateFault.{ValidateFault}
use Rattle.tp_validate.specs.declared.verdicts.ValidateFault.TheVariants.{Memory, Range}

-- the first fault of a plan, by its tick
abbrev pub IsFirst : Task → List Step → ℕ → Fault → Type 0
IsFirst t steps tick why =
    IsFirstFault (scale_of t) (begin t) t.goal (plan_of t steps) tick (told why)

-- Valid only for a valid plan, and that plan; Invalid only for one that is not, with its first fault and the plan.
abbrev pub IsVerdict : Task → List Step → Verdict → Type 0
IsVerdict t steps (Valid v) = (v.task ≡ t) × (v.steps ≡ steps) × IsValidPlan t steps
IsVerdict t steps (Invalid plan tick why) =
    (plan ≡ steps) × IsFirst t steps tick why × (¬ IsValidPlan t steps)

-- A fault hands the plan back; Range comes only where a number passes the limit.
abbrev pub IsFault : Task → List Step → ValidateFault → Type 0
IsFault t steps (Memory plan) = plan ≡ steps
IsFault t steps (Range plan) = (plan ≡ steps) × PassesIn t steps
