use Rattle.std.proofs.Common.{[]}
use Rattle.tp_syntax_ast.specs.DomainViews.{domain_view, problem_view}
use Rattle.tp_ground.proofs.OnTasks.{not_made}
use Rattle.tp_ground_named.specs.Named.{HasNoTaskOf}
use Rattle.tp_ground_named.proofs.OnEnds.{whatever}
use Rattle.tp_ground_named.proofs.named.begin.Goals as goal

pub returns-in_err-check-clause-err : goal.returns-in_err-check-clause-err
returns-in_err-check-clause-err c =
    not_made (HasNoTaskOf c.args.limits.now (domain_view c.args.domain.now) (problem_view c.args.problem.now) []) _ _ c.from_residual.ensures.1
    (whatever (domain_view c.args.domain.now) (problem_view c.args.problem.now) [] _ c.in_err-check.ensures.err c.args.limits.now)
