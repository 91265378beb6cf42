use Rattle.std.proofs.lemmas.Result.{IfErr-weaker, IfOk-weaker}
use Rattle.tp_cli_plan.proofs.JoinedLemmas.{no_answer, searches, stops}
use Rattle.tp_cli_plan.proofs.planning.solve_whole.Goals as goal

pub returns-in-Ok-clause-said : goal.returns-in-Ok-clause-said
returns-in-Ok-clause-said g c =
    λ held (d, p, are, joined, whole).
    IfOk-weaker c.tell.result _ _ (λ planned told. searches c.plans_are_read.ensures c.actions_are_readable.ensures c.chosen_actions_are_readable.ensures c.plans_of_some_are_plans.ensures held c.args.words c.args.wishes c.args.task.now c.requires.limit c.requires.order d p are joined c.whole_tasks_have_all_plans.ensures whole c.in-Ok.found _ _ planned c.in-Ok.ensures.answer c.tell.ensures.of_task told) c.tell.ensures.said

pub returns-in-Ok-clause-cause : goal.returns-in-Ok-clause-cause
returns-in-Ok-clause-cause g c =
    λ held (d, p, are, joined, whole).
    IfErr-weaker c.tell.result _ _ (λ stop told. stops c.plans_are_read.ensures c.actions_are_readable.ensures c.chosen_actions_are_readable.ensures c.plans_of_some_are_plans.ensures held c.args.words c.args.wishes c.args.task.now c.requires.limit c.requires.order d p are joined c.whole_tasks_have_all_plans.ensures whole c.in-Ok.found _ _ stop c.in-Ok.ensures.answer c.tell.ensures.of_task told) c.tell.ensures.cause

pub returns-in-Err-clause-cause : goal.returns-in-Err-clause-cause
returns-in-Err-clause-cause g c =
    λ held (d, p, are, joined, whole).
    no_answer c.plans_are_read.ensures c.actions_are_readable.ensures c.chosen_actions_are_readable.ensures c.plans_of_some_are_plans.ensures held c.args.words c.args.wishes c.args.task.now c.requires.limit c.requires.order d p are joined c.whole_tasks_have_all_plans.ensures whole _ c.in-Err.fault
