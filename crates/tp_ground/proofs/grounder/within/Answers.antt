use Rattle.std.proofs.Common.{length, map, ap, ◌∙◌, arith}
use Rattle.std.proofs.lemmas.List.{length-map}
use Rattle.std.proofs.lemmas.Result.{IfOk-weaker}
use Rattle.tp_syntax_ast.specs.DomainViews.{action_view, domain_view, problem_view}
use Rattle.tp_ground.specs.Instances.{instance_view}
use Rattle.tp_ground.proofs.OnAll.{as_many, is_task, few_atoms, few_fluents, no_task, all_of_problem, both_ok, weaker_err}
use Rattle.tp_ground.proofs.grounder.within.Goals as goal

pub task_with-requires-clause-few : goal.task_with-requires-clause-few
task_with-requires-clause-few c =
    let d = domain_view c.args.domain.now in
    let p = problem_view c.args.problem.now in
    let all = all_of_problem d p _ _ _ c.in_ok-universe.ensures.ok (ap (map action_view) c.deref.ensures.value) c.in_ok-all.ensures in
    let many = as_many d p (map instance_view c.in_ok-all.all.items) all in
    omega (arith, many, length-map c.in_ok-all.all.items instance_view, ap length c.deref-2.ensures.value, c.in_ok-universe.ensures.few, c.in_ok-universe.ensures.most)

pub returns-clause-ok : goal.returns-clause-ok
returns-clause-ok c =
    let d = domain_view c.args.domain.now in
    let p = problem_view c.args.problem.now in
    let all = ap (map instance_view) c.deref-2.ensures.value ∙ all_of_problem d p _ _ _ c.in_ok-universe.ensures.ok (ap (map action_view) c.deref.ensures.value) c.in_ok-all.ensures in
    IfOk-weaker c.task_with.result _ _ (λ t h. is_task d p (map instance_view c.deref-2.result.now) all c.args.limits.now c.args.scale t h) c.task_with.ensures.ok

pub returns-clause-atoms : goal.returns-clause-atoms
returns-clause-atoms c =
    let d = domain_view c.args.domain.now in
    let p = problem_view c.args.problem.now in
    let all = ap (map instance_view) c.deref-2.ensures.value ∙ all_of_problem d p _ _ _ c.in_ok-universe.ensures.ok (ap (map action_view) c.deref.ensures.value) c.in_ok-all.ensures in
    both_ok _ _ _ c.task_with.result (λ t h le. few_atoms d p (map instance_view c.deref-2.result.now) all c.args.limits.now c.args.scale t _ h le) c.task_with.ensures.ok c.task_with.ensures.atoms

pub returns-clause-fluents : goal.returns-clause-fluents
returns-clause-fluents c =
    let d = domain_view c.args.domain.now in
    let p = problem_view c.args.problem.now in
    let all = ap (map instance_view) c.deref-2.ensures.value ∙ all_of_problem d p _ _ _ c.in_ok-universe.ensures.ok (ap (map action_view) c.deref.ensures.value) c.in_ok-all.ensures in
    both_ok _ _ _ c.task_with.result (λ t h le. few_fluents d p (map instance_view c.deref-2.result.now) all c.args.limits.now c.args.scale t _ h le) c.task_with.ensures.ok c.task_with.ensures.fluents

pub returns-clause-err : goal.returns-clause-err
returns-clause-err c =
    let d = domain_view c.args.domain.now in
    let p = problem_view c.args.problem.now in
    let all = ap (map instance_view) c.deref-2.ensures.value ∙ all_of_problem d p _ _ _ c.in_ok-universe.ensures.ok (ap (map action_view) c.deref.ensures.value) c.in_ok-all.ensures in
    weaker_err _ _ c.task_with.result (λ e h. no_task d p (map instance_view c.deref-2.result.now) all c.args.limits.now e h) c.task_with.ensures.err
