-- The plan of runs that are joined.
use Rattle.std.specs.Prelude.{ℕ, List, Option, Some}
use Rattle.tp_bounds.specs.RunLimits.{RunLimits}
use Rattle.tp_bounds.specs.declared.plan_nets.PlanNet.{PlanNet}
use Rattle.tp_bounds.specs.Setting.{Setting}
use Rattle.tp_bounds.specs.Certificates.{moments_of, IsListedSchedule}
use Rattle.tp_exec_machine.specs.declared.command.Report.{Report}
use Rattle.tp_deorder.specs.tp_task.declared.task.Task.{Task}
use Rattle.tp_deorder.specs.tp_happen.tp_plan_text.declared.plans.Step.{Step}
use Rattle.tp_deorder.specs.Answers.{IsPlanNetOf}
use Rattle.tp_agents.specs.Joined.{Joins}
use Rattle.tp_exec_laws.specs.PartRuns.{ArePartReports}
use Rattle.tp_exec_laws.specs.NetsInForce.{HasInForce, MakesValidPlan}

-- what runs of the parts make together is a schedule of the whole
abbrev pub JoinedRunsAreSchedules : Setting → List ℕ → List (Option (ℕ × ℕ)) → Type 0
JoinedRunsAreSchedules s owners intervals =
    (reports : List Report) (moments : List ℕ) → ArePartReports s owners intervals reports
    → Joins owners reports (Some moments) → IsListedSchedule s moments

-- and makes a valid plan, where the network of a valid plan was split
abbrev pub JoinedRunsMakeValidPlans : Setting → List ℕ → List (Option (ℕ × ℕ)) → Type 0
JoinedRunsMakeValidPlans s owners intervals =
    (t : Task) (steps : List Step) (l : RunLimits) (n : PlanNet) (reports : List Report) (moments : List ℕ)
    → IsPlanNetOf t steps l n → HasInForce s n → ArePartReports s owners intervals reports
    → Joins owners reports (Some moments) → MakesValidPlan t steps (moments_of moments)
