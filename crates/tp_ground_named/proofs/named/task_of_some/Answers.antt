use Rattle.std.proofs.Common.{ℕ, ◌≤◌, map, sym, subst}
use Rattle.std.proofs.lemmas.List.{length-map}
use Rattle.tp_syntax_ast.specs.DomainViews.{domain_view, problem_view}
use Rattle.tp_ground_bindings.specs.Views.{universe_view}
use Rattle.tp_ground.specs.Instances.{instance_view}
use Rattle.tp_ground.proofs.OnTasks.{not_made}
use Rattle.tp_ground_named.specs.Named.{HasNoTaskOf}
use Rattle.tp_ground_named.proofs.OnEnds.{few, fits, all_named, is_task, stopped}
use Rattle.tp_ground_named.proofs.named.task_of_some.Goals as goal

pub task_of-requires-clause-few : goal.task_of-requires-clause-few
task_of-requires-clause-few c =
    few c.args.limits.now c.args.scale (domain_view c.args.domain.now) (problem_view c.args.problem.now) (map instance_view c.args.some.now) c.args.begun c.requires.begun (universe_view c.args.begun.universe) c.requires.begun.of_universe c.prepare.new.numbering c.in_ok-actions.actions c.in_ok-actions.ensures.lowered c.in_ok-actions.ensures.names
    (subst (λ (n : ℕ). n ≤ 65_535) (sym (length-map c.args.some.now instance_view)) c.requires.few)

pub task_of-requires-clause-fits : goal.task_of-requires-clause-fits
task_of-requires-clause-fits c =
    fits c.args.limits.now c.args.scale (domain_view c.args.domain.now) (problem_view c.args.problem.now) (map instance_view c.args.some.now) c.args.begun c.requires.begun (universe_view c.args.begun.universe) c.requires.begun.of_universe c.prepare.new.numbering c.in_ok-actions.actions c.in_ok-actions.ensures.lowered c.in_ok-actions.ensures.names

pub task_of-requires-clause-all_named : goal.task_of-requires-clause-all_named
task_of-requires-clause-all_named c =
    all_named c.args.limits.now c.args.scale (domain_view c.args.domain.now) (problem_view c.args.problem.now) (map instance_view c.args.some.now) c.args.begun c.requires.begun (universe_view c.args.begun.universe) c.requires.begun.of_universe c.prepare.new.numbering c.in_ok-actions.actions c.in_ok-actions.ensures.lowered c.in_ok-actions.ensures.names

pub returns-clause-ok : goal.returns-clause-ok
returns-clause-ok c =
    is_task c.args.limits.now c.args.scale (domain_view c.args.domain.now) (problem_view c.args.problem.now) (map instance_view c.args.some.now) c.args.begun c.requires.begun (universe_view c.args.begun.universe) c.requires.begun.of_universe c.prepare.new.numbering c.in_ok-actions.actions c.in_ok-actions.ensures.lowered c.in_ok-actions.ensures.names _ c.in_ok-task_of.ensures.made

pub returns-in_err-actions-clause-err : goal.returns-in_err-actions-clause-err
returns-in_err-actions-clause-err c =
    not_made (HasNoTaskOf c.args.limits.now (domain_view c.args.domain.now) (problem_view c.args.problem.now) (map instance_view c.args.some.now)) _ _ c.from_residual.ensures.1
    (stopped c.args.limits.now c.args.scale (domain_view c.args.domain.now) (problem_view c.args.problem.now) (map instance_view c.args.some.now) c.args.begun c.requires.begun (universe_view c.args.begun.universe) c.requires.begun.of_universe _ c.in_err-actions.ensures.lowered)
