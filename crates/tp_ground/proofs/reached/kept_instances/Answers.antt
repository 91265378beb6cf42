use Rattle.std.proofs.Common.{◌≡◌, Bool, List, map, filter, ap, subst, ◌∙◌}
use Rattle.std.proofs.lemmas.Result.{IfOk-weaker}
use Rattle.tp_syntax_ast.specs.DomainViews.{action_view, domain_view, problem_view}
use Rattle.tp_syntax_ast.specs.declared.action.Action.{Action}
use Rattle.tp_ground_bindings.specs.Views.{universe_view}
use Rattle.tp_ground.specs.Initially.{initial_in}
use Rattle.tp_ground.specs.Reached.{Instance, instances}
use Rattle.tp_ground.specs.Instances.{instance_view, AreFlags}
use Rattle.tp_ground.specs.declared.instances.Instance as code
use Rattle.tp_ground.proofs.OnFlags.{kept_of}
use Rattle.tp_ground.proofs.reached.kept_instances.Goals as goal

pub returns : goal.returns
returns c =
    let d = domain_view c.args.domain.now in
    let p = problem_view c.args.problem.now in
    let u = universe_view c.args.universe.now in
    let all = c.in_ok-all.all.items in
    let flags = c.in_ok-flags.flags.items in
    IfOk-weaker c.flagged.result _ _ (λ v picks.
    kept_of d p u (map instance_view all) (map instance_view v.items) flags c.requires
    (c.in_ok-all.ensures ∙ ap (λ (as_ : List Action). instances u (map action_view as_)) c.deref.ensures.value)
    (subst (λ (ys : List code.Instance). AreFlags u (map initial_in p.initial) (map instance_view ys) flags) c.deref-2.ensures.value c.in_ok-flags.ensures)
    (subst (λ (fs : List Bool). (test : Instance → Bool) → fs ≡ map test (map instance_view all) → map instance_view v.items ≡ filter test (map instance_view all)) c.deref-4.ensures.value
    (subst (λ (ys : List code.Instance). (test : Instance → Bool) → c.deref-4.result.now ≡ map test (map instance_view ys) → map instance_view v.items ≡ filter test (map instance_view ys)) c.deref-3.ensures.value picks))) c.flagged.ensures
