use Rattle.tp_cli_plan.proofs.TaskLemmas.{joined_of, whole_of}
use Rattle.tp_cli_plan.proofs.planning.plan_joined.Goals as goal

pub returns-in-Some-clause-said : goal.returns-in-Some-clause-said
returns-in-Some-clause-said g c =
    λ held are.
    c.plan_some.ensures.said held (joined_of held c.args.words _ _ _ _ c.task_words.ensures are c.in-Some.ensures.some)
    (λ is. whole_of held c.args.words _ _ _ _ c.task_words.ensures are c.in-Some.ensures.some (c.in-Some.ensures.whole is))

pub returns-in-Some-clause-cause : goal.returns-in-Some-clause-cause
returns-in-Some-clause-cause g c =
    λ held are.
    c.plan_some.ensures.cause held (joined_of held c.args.words _ _ _ _ c.task_words.ensures are c.in-Some.ensures.some)
    (λ is. whole_of held c.args.words _ _ _ _ c.task_words.ensures are c.in-Some.ensures.some (c.in-Some.ensures.whole is))
