use Rattle.tp_cli_plan.proofs.planning.plan_guided.Goals as goal

pub returns-in-Ok-clause-said : goal.returns-in-Ok-clause-said
returns-in-Ok-clause-said g c =
    λ held are. c.plan_rest.ensures.said held _ are (c.in-Ok.ensures.said held are)

pub returns-in-Ok-clause-cause : goal.returns-in-Ok-clause-cause
returns-in-Ok-clause-cause g c =
    λ held are. c.plan_rest.ensures.cause held _ are (c.in-Ok.ensures.said held are)

pub returns-in-Err-clause-cause : goal.returns-in-Err-clause-cause
returns-in-Err-clause-cause g c = λ held are. c.in-Err.ensures.cause held are
