use Rattle.std.proofs.Common.{[], inl, subst}
use Rattle.tp_bounds.specs.RunLimits.{RunLimits}
use Rattle.tp_ground_named.specs.Named.{IsBegun, HasNoTaskOf}
use Rattle.tp_syntax.specs.DomainViews.{domain_view, problem_view}
use Rattle.tp_cli_inputs.proofs.judging.plan_with.Goals as goal

pub plan_from-requires-clause-begun : goal.plan_from-requires-clause-begun
plan_from-requires-clause-begun g c =
    subst (λ (l : RunLimits). IsBegun l (domain_view c.args.domain.now) (problem_view c.args.problem.now) c.in-Ok.begun) c.greatest.ensures c.in-Ok.ensures.ok

pub returns-in-Err-clause-cause : goal.returns-in-Err-clause-cause
returns-in-Err-clause-cause g c =
    λ are. (
      domain_view c.args.domain.now,
      problem_view c.args.problem.now,
      are,
      inl (subst (λ (l : RunLimits). HasNoTaskOf l (domain_view c.args.domain.now) (problem_view c.args.problem.now) [] c.in-Err.fault) c.greatest.ensures c.in-Err.ensures.err),
    )
