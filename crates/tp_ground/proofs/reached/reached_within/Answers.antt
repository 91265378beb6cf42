use Rattle.std.proofs.Common.{List, map, sym, subst}
use Rattle.tp_syntax_ast.specs.DomainViews.{domain_view, problem_view}
use Rattle.tp_ground.specs.Reached.{AreKept}
use Rattle.tp_ground.specs.Instances.{instance_view}
use Rattle.tp_ground.specs.declared.instances.Instance.{Instance}
use Rattle.tp_ground.proofs.reached.reached_within.Goals as goal

pub kept_task-requires-clause-kept : goal.kept_task-requires-clause-kept
kept_task-requires-clause-kept c =
    subst (λ (is : List Instance). AreKept (domain_view c.args.domain.now) (problem_view c.args.problem.now) (map instance_view is)) (sym c.deref.ensures.value) c.in_ok-kept.ensures
