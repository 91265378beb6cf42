-- A plan that is not valid.
use Rattle.std.specs.Prelude.{ℕ, List, Option}
use Rattle.std.specs.Io.KnownBytes.{Appends}
use Rattle.tp_device.specs.Bytes.{AppendsPart}
use Rattle.tp_task.specs.declared.task.Task.{Task}
use Rattle.tp_happen.specs.tp_plan_text.declared.plans.Step.{Step}
use Rattle.tp_validate.specs.Answers.{IsFirst}
use Rattle.tp_validate.specs.OfTask.{IsValidPlan}
use Rattle.tp_validate.specs.declared.ticks.Fault.{Fault}
use Rattle.tp_cli_inputs.specs.Named.{IsNamedPlan}
use Rattle.tp_cli_inputs.specs.VerdictLines.{invalid_line}
use Rattle.tp_cli_inputs.specs.declared.plan_words.PlanWords.{PlanWords}

-- the plan is not valid, and its first fault was written
pub record SaysInvalid (held : List ℕ → Option (List ℕ)) (w : PlanWords)
    (before now : Option (List ℕ)) : Type 0 where
  pub task : Task
  pub steps : List Step
  pub tick : ℕ
  pub why : Fault
  pub named : IsNamedPlan held w task steps
  pub first : IsFirst task steps tick why
  pub invalid : ¬ IsValidPlan task steps
  pub written : Appends before now (invalid_line tick why)

-- the plan is not valid, and a first part of its first fault was written
pub record SaysInvalidPart (held : List ℕ → Option (List ℕ)) (w : PlanWords)
    (before now : Option (List ℕ)) : Type 0 where
  pub task : Task
  pub steps : List Step
  pub tick : ℕ
  pub why : Fault
  pub named : IsNamedPlan held w task steps
  pub first : IsFirst task steps tick why
  pub invalid : ¬ IsValidPlan task steps
  pub part : AppendsPart before now (invalid_line tick why)
