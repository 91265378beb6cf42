use Rattle.std.proofs.Common.{refl}
use Rattle.std.proofs.lemmas.Result.{IfErr-weaker, IfOk-weaker}
use Rattle.tp_bounds.specs.RunLimits.{greatest_limits}
use Rattle.tp_cli_plan.proofs.AnswerLemmas.{searched_in, searches, stops}
use Rattle.tp_cli_plan.proofs.planning.search_of.Goals as goal

pub returns-in-Ok-clause-said : goal.returns-in-Ok-clause-said
returns-in-Ok-clause-said g c =
    λ held named.
    IfOk-weaker c.tell.result _ _ (λ planned told. searches c.plans_are_read.ensures c.reached_actions_are_readable.ensures c.actions_are_readable.ensures c.same_plans_are_valid.ensures c.same_goal_is_in_reach.ensures held c.args.words c.args.task.now c.requires named c.in-Ok.found _ _ planned c.in-Ok.ensures.answer c.tell.ensures.of_task told) c.tell.ensures.said

pub returns-in-Ok-clause-cause : goal.returns-in-Ok-clause-cause
returns-in-Ok-clause-cause g c =
    λ held named.
    IfErr-weaker c.tell.result _ _ (λ stop told. stops c.plans_are_read.ensures c.reached_actions_are_readable.ensures c.actions_are_readable.ensures c.same_plans_are_valid.ensures c.same_goal_is_in_reach.ensures held c.args.words c.args.task.now c.requires named c.in-Ok.found _ _ stop c.in-Ok.ensures.answer c.tell.ensures.of_task told) c.tell.ensures.cause

pub returns-in-Err-clause-cause : goal.returns-in-Err-clause-cause
returns-in-Err-clause-cause g c =
    λ held named. (
      (c.args.task.now, named.domain, named.problem, (named.domain_in, named.problem_in), searched_in c.args.words.order (greatest_limits c.args.words.horizon) c.args.words.scale named.domain named.problem c.args.task.now named.task_of),
      refl,
    )
