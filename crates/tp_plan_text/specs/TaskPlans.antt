-- Steps that end in time.
use Rattle.std.specs.Prelude.{◌+◌, ◌≤◌, List}
use Rattle.std.specs.List.{AllByRecursion}
use Rattle.tp_task.specs.declared.task.Task.{Task}
use Rattle.tp_plan_text.specs.declared.plans.Step.{Step}
use Rattle.tp_plan_text.specs.TaskWords.{readable}

-- each step ends by the task's horizon
abbrev pub EndInTime : Task → List Step → Type 0
EndInTime t steps = AllByRecursion (λ (s : Step). s.tick + s.duration ≤ (readable t).horizon) steps
