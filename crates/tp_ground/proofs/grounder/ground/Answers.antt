use Rattle.tp_syntax_ast.specs.DomainViews.{domain_view, problem_view}
use Rattle.tp_ground.specs.Grounding.{HasNoTask}
use Rattle.tp_ground.proofs.OnTasks.{not_made}
use Rattle.tp_ground.proofs.grounder.ground.Goals as goal

pub returns-in_err-check-clause-err : goal.returns-in_err-check-clause-err
returns-in_err-check-clause-err c = not_made (HasNoTask c.args.limits.now (domain_view c.args.domain.now) (problem_view c.args.problem.now)) _ _ c.from_residual.ensures.1 (c.in_err-check.ensures.err c.args.limits.now)
