-- Settings in which the network of a plan is in force.
use Rattle.std.specs.Prelude.{◌≡◌, ℕ, length, List, Some}
use Rattle.std.specs.FinMap.{get}
use Rattle.std.specs.List.{All}
use Rattle.tp_bounds.specs.RunLimits.{RunLimits}
use Rattle.tp_bounds.specs.declared.Bound.{Bound}
use Rattle.tp_bounds.specs.declared.plan_nets.PlanNet.{PlanNet}
use Rattle.tp_bounds.specs.Setting.{Setting, event_count}
use Rattle.tp_bounds.specs.Schedule.{IsSchedule}
use Rattle.tp_deorder.specs.tp_task.declared.task.Task.{Task}
use Rattle.tp_deorder.specs.tp_happen.tp_plan_text.declared.plans.Step.{Step}
use Rattle.tp_deorder.specs.tp_validate.OfTask.{IsOfTask, IsValidPlan}
use Rattle.tp_deorder.specs.Answers.{IsPlanNetOf}
use Rattle.tp_deorder.specs.RunPlans.{run_steps}

-- a bound is in force, under some identifier
abbrev pub IsInForce : Setting → Bound → Type 0
IsInForce s b = (id : ℕ) × (get s.bounds id ≡ Some b)

-- the setting has the events and the horizon of the network, and each bound of it is in force, perhaps with others
pub record HasInForce (s : Setting) (n : PlanNet) : Type 0 where
  pub events : event_count s ≡ length n.events.items
  pub horizon : s.horizon ≡ n.horizon
  pub bounds : All (IsInForce s) n.bounds.items

-- The plan of a run at these moments: the steps, each at the moment of its first event and as long as to its last one. It is one of
-- the task, it is valid, and so it reaches the goal.
pub record MakesValidPlan (t : Task) (steps : List Step) (m : ℕ → ℕ) : Type 0 where
  pub of_task : IsOfTask t (run_steps t m steps)
  pub valid : IsValidPlan t (run_steps t m steps)

-- where the network is a plan's, each schedule that remains makes a valid plan
abbrev pub SchedulesMakeValidPlans : Setting → Type 0
SchedulesMakeValidPlans s =
    (t : Task) (steps : List Step) (l : RunLimits) (n : PlanNet) (m : ℕ → ℕ) → IsPlanNetOf t steps l n
    → HasInForce s n → IsSchedule s m → MakesValidPlan t steps m
