-- A run keeps to the plan that it came from.
use Rattle.std.proofs.Common.{ℕ, List, [], ◌∷◌, Some, None, subst, sym}
use Rattle.tp_task.specs.declared.task.Task.{Task}
use Rattle.tp_happen.specs.tp_plan_text.declared.plans.Step.{Step}
use Rattle.tp_task.specs.Bounds.{MeetsBounds}
use Rattle.tp_validate.specs.OfTask.{plan_of, scale_of, state_at}
use Rattle.tp_deorder.specs.Inequalities.{event_count_of}
use Rattle.tp_exec.specs.FromPlan.{CameFrom}
use Rattle.tp_exec_machine.specs.Machine.{Machine}
use Rattle.tp_exec_machine.specs.OwnBounds.{KeepsTo}
use Rattle.tp_exec_machine.proofs.Keeping.{step_keeps}
use Rattle.tp_journal_pairs.specs.Journal.{Entry, Runs}

module _ (n : ℕ) (wanted : (ℕ → ℕ) → Type 0) where
  runs_keep : (version : ℕ) (entries : List Entry) (old new : Machine) → KeepsTo n wanted old → Runs version old entries new → KeepsTo n wanted new
  runs_keep version [] old new k run = subst (KeepsTo n wanted) (sym run) k
  runs_keep version (None ∷ entries) old new k run = runs_keep version entries old new k run
  runs_keep version (Some p ∷ entries) old new k run = runs_keep version entries run.0 new (step_keeps n wanted old run.0 p.0 p.1 k run.3) run.4

pub runs_came : (t : Task) (steps : List Step) (version : ℕ) (entries : List Entry) (old new : Machine) → CameFrom t steps old → Runs version old entries new → CameFrom t steps new
runs_came t steps version entries old new = runs_keep (event_count_of (plan_of t steps)) (MeetsBounds (scale_of t) (state_at t steps) (plan_of t steps)) version entries old new
