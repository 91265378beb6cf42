-- A validated plan as contracts see it: its task and its steps.
use Rattle.std.specs.Prelude.{List}
use Rattle.tp_task.specs.declared.task.Task.{Task}
use Rattle.tp_happen.specs.tp_plan_text.declared.plans.Step.{Step}

pub record Validated : Type 0 where
  pub task : Task
  pub steps : List Step
