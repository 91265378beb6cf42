use Rattle.std.proofs.Common.{subst}
use Rattle.tp_bounds.specs.RunLimits.{RunLimits}
use Rattle.tp_syntax.specs.DomainViews.{domain_view, problem_view}
use Rattle.tp_ground.specs.Reached.{HasNoReachedTask}
use Rattle.tp_cli_plan.proofs.tasks.reached_task.Goals as goal

pub returns-in-Err-clause-cause : goal.returns-in-Err-clause-cause
returns-in-Err-clause-cause c =
    λ held are.
    let d = domain_view c.args.inputs.now.domain in
    let p = problem_view c.args.inputs.now.problem in
    (d, p, are.0, are.1, subst (λ (l : RunLimits). HasNoReachedTask l d p c.in-Err.fault) c.greatest-limits.ensures c.in-Err.ensures.err)
