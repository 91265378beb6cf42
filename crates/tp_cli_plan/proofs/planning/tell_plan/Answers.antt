use Rattle.tp_cli_plan.proofs.JoinedLemmas.{proposed, proposal_stops}
use Rattle.tp_cli_plan.proofs.planning.tell_plan.Goals as goal

pub returns-in-Ok-clause-said : goal.returns-in-Ok-clause-said
returns-in-Ok-clause-said g c =
    λ held (d, p, are, joined).
    proposed c.plans_are_read.ensures c.actions_are_readable.ensures c.chosen_actions_are_readable.ensures c.plans_of_some_are_plans.ensures held c.args.words c.args.wishes c.args.task.now c.requires.limit c.requires.order d p are joined c.args.plan _ _ _ c.requires.sought c.tell.ensures.of_task c.in-Ok.ensures.said

pub returns-clause-cause : goal.returns-clause-cause
returns-clause-cause g c =
    λ held (d, p, are, joined).
    proposal_stops c.plans_are_read.ensures c.actions_are_readable.ensures c.chosen_actions_are_readable.ensures c.plans_of_some_are_plans.ensures held c.args.words c.args.wishes c.args.task.now c.requires.limit c.requires.order d p are joined c.args.plan _ _ c.in-Err.stop c.requires.sought c.tell.ensures.of_task c.in-Err.ensures.cause
