-- What is told of the plan in a file.
use Rattle.std.specs.Prelude.{ℕ, List, Option}
use Rattle.tp_task.specs.declared.task.Task.{Task}
use Rattle.tp_happen.specs.tp_plan_text.declared.plans.Step.{Step}
use Rattle.tp_cli_inputs.specs.Named.{IsNamedPlan}
use Rattle.tp_cli_inputs.specs.declared.plan_words.PlanWords.{PlanWords}
use Rattle.tp_cli.specs.declared.judgements.Judgement.{Judgement}
use Rattle.tp_cli.specs.Judgements.{IsJudgement}

-- the true judgement on the plan that the words name
pub record IsJudged (held : List ℕ → Option (List ℕ)) (w : PlanWords)
    (judgement : Judgement) : Type 0 where
  pub task : Task
  pub steps : List Step
  pub named : IsNamedPlan held w task steps
  pub judged : IsJudgement task steps judgement
