use Rattle.tp_cli_plan.proofs.planning.plan_some.Goals as goal

pub returns-in-Ok-clause-said : goal.returns-in-Ok-clause-said
returns-in-Ok-clause-said g c =
    λ held joined whole. c.in-Ok.ensures.said held (whole c.if-joined.true)

pub returns-in-Err-clause-cause : goal.returns-in-Err-clause-cause
returns-in-Err-clause-cause g c =
    λ held joined whole. c.in-Err.ensures.cause held (whole c.if-joined.true)

pub returns-else-joined-clause-said : goal.returns-else-joined-clause-said
returns-else-joined-clause-said g c =
    λ held joined whole. c.propose_of.ensures.said held joined

pub returns-else-joined-clause-cause : goal.returns-else-joined-clause-cause
returns-else-joined-clause-cause g c =
    λ held joined whole. c.propose_of.ensures.cause held joined
