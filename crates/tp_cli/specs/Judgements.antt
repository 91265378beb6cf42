-- What is told of the plan of a task.
use Rattle.std.specs.Prelude.{ℕ, List, codes}
use Rattle.tp_task.specs.declared.task.Task.{Task}
use Rattle.tp_happen.specs.tp_plan_text.declared.plans.Step.{Step}
use Rattle.tp_validate.specs.Answers.{IsFirst}
use Rattle.tp_validate.specs.OfTask.{IsValidPlan}
use Rattle.tp_cli_inputs.specs.VerdictLines.{invalid_line}
use Rattle.tp_cli.specs.declared.judgements.Judgement.{Judgement}
use Rattle.tp_cli.specs.declared.judgements.Judgement.TheVariants.{Valid, Invalid}

-- the true judgement on the steps of a plan
abbrev pub IsJudgement : Task → List Step → Judgement → Type 0
IsJudgement task steps Valid = IsValidPlan task steps
IsJudgement task steps (Invalid tick why) =
    IsFirst task steps tick why × (¬ IsValidPlan task steps)

abbrev pub judgement_line : Judgement → List ℕ
judgement_line Valid = codes "valid\n"
judgement_line (Invalid tick why) = invalid_line tick why
