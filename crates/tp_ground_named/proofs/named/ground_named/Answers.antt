use Rattle.std.proofs.Common.{◌≡◌, List, IfErr, IfOk, map, ap, ap₂, subst, ◌∙◌}
use Rattle.tp_syntax_ast.specs.Actions as actions
use Rattle.tp_syntax_ast.specs.DomainViews.{action_view, domain_view, problem_view}
use Rattle.tp_ground_bindings.specs.Bindings.{Universe}
use Rattle.tp_ground_bindings.specs.Rows.{names_of}
use Rattle.tp_ground.specs.Instances.{instance_view}
use Rattle.tp_ground.specs.Reached.{Instance, IsTaskOf}
use Rattle.tp_ground_named.specs.Named.{chosen, chosen_of, HasNoTaskOf}
use Rattle.tp_ground_named.proofs.named.ground_named.Goals as goal

pub returns-clause-ok : goal.returns-clause-ok
returns-clause-ok c =
    let d = domain_view c.args.domain.now in
    let p = problem_view c.args.problem.now in
    let same : map instance_view c.as_slice-lent.result.now ≡ chosen d p (map names_of c.args.asked.now) =
    ap (map instance_view) c.as_slice-lent.ensures.value
    ∙ c.in_ok-some.ensures
    ∙ ap₂ (λ (u : Universe) (as_ : List actions.Action). chosen_of u as_ (map names_of c.args.asked.now)) c.requires.of_universe (ap (map action_view) c.as_slice-actions.ensures.value) in
    subst (λ (is : List Instance). IfOk c.task_within.result (IsTaskOf c.args.limits.now c.args.scale d p is)) same c.task_within.ensures.ok

pub returns-clause-err : goal.returns-clause-err
returns-clause-err c =
    let d = domain_view c.args.domain.now in
    let p = problem_view c.args.problem.now in
    let same : map instance_view c.as_slice-lent.result.now ≡ chosen d p (map names_of c.args.asked.now) =
    ap (map instance_view) c.as_slice-lent.ensures.value
    ∙ c.in_ok-some.ensures
    ∙ ap₂ (λ (u : Universe) (as_ : List actions.Action). chosen_of u as_ (map names_of c.args.asked.now)) c.requires.of_universe (ap (map action_view) c.as_slice-actions.ensures.value) in
    subst (λ (is : List Instance). IfErr c.task_within.result (HasNoTaskOf c.args.limits.now d p is)) same c.task_within.ensures.err
