use Rattle.std.proofs.Common.{refl, subst, sym}
use Rattle.tp_syntax.specs.DomainViews.{domain_view, problem_view}
use Rattle.tp_cli_inputs.specs.Named.{AreNamed}
use Rattle.tp_cli_inputs.specs.declared.plan_words.PlanWords.{PlanWords}
use Rattle.tp_cli_plan.specs.SearchTasks.{ExplainsTask}
use Rattle.tp_cli_plan.proofs.TaskLemmas.{search_task}
use Rattle.tp_cli_plan.proofs.planning.plan_reached.Goals as goal

pub returns-in-Ok-clause-said : goal.returns-in-Ok-clause-said
returns-in-Ok-clause-said g c =
    λ held are.
    c.search_of.ensures.said held (search_task held _ _ _ _ _ c.task_words.ensures are c.in-Ok.ensures.task)

pub returns-in-Ok-clause-cause : goal.returns-in-Ok-clause-cause
returns-in-Ok-clause-cause g c =
    λ held are.
    c.search_of.ensures.cause held (search_task held _ _ _ _ _ c.task_words.ensures are c.in-Ok.ensures.task)

pub returns-in-Err-clause-cause : goal.returns-in-Err-clause-cause
returns-in-Err-clause-cause g c =
    λ held are. (
      subst (λ (w : PlanWords). ExplainsTask held w c.in-Err.of_task) c.task_words.ensures
          (c.in-Err.ensures.cause held
          (subst (λ (w : PlanWords). AreNamed held w (domain_view c.args.inputs.now.domain) (problem_view c.args.inputs.now.problem)) (sym c.task_words.ensures) are)),
      refl,
    )
