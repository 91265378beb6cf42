use Rattle.std.proofs.Common.{subst}
use Rattle.tp_syntax.specs.DomainViews.{domain_view, problem_view}
use Rattle.tp_cli_inputs.specs.Named.{AreNamed}
use Rattle.tp_cli_inputs.specs.declared.plan_words.PlanWords.{PlanWords}
use Rattle.tp_cli_plan.proofs.planning.plan.Goals as goal

pub returns-in-Ok-clause-said : goal.returns-in-Ok-clause-said
returns-in-Ok-clause-said g c =
    let held = g.N.Files.held c.args.files.now in
    c.plan_of-planned.ensures.said held
    (subst (λ (w : PlanWords). AreNamed held w (domain_view c.in-Ok.inputs.domain) (problem_view c.in-Ok.inputs.problem)) c.task_words.ensures c.in-Ok.ensures.named)

pub returns-in-Ok-clause-cause : goal.returns-in-Ok-clause-cause
returns-in-Ok-clause-cause g c =
    let held = g.N.Files.held c.args.files.now in
    c.plan_of-planned.ensures.cause held
    (subst (λ (w : PlanWords). AreNamed held w (domain_view c.in-Ok.inputs.domain) (problem_view c.in-Ok.inputs.problem)) c.task_words.ensures c.in-Ok.ensures.named)
