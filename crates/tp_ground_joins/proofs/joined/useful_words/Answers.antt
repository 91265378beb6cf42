use Rattle.std.proofs.Common.{List, map, subst}
use Rattle.std.proofs.lemmas.Result.{IfOk-weaker}
use Rattle.tp_syntax_ast.specs.DomainViews.{action_view, initial_view, domain_view, problem_view}
use Rattle.tp_syntax_ast.specs.declared.action.Action.{Action}
use Rattle.tp_syntax_ast.specs.declared.problem.Initial.{Initial}
use Rattle.tp_task.specs.Words.{Words}
use Rattle.tp_ground_bindings.specs.Bindings.{Universe}
use Rattle.tp_ground_bindings.specs.Rows.{names_of}
use Rattle.tp_ground_bindings.specs.Views.{universe_view}
use Rattle.tp_ground_joins.specs.Joined.{AreUseful}
use Rattle.tp_ground_joins.proofs.OnPicked.{useful_as}
use Rattle.tp_ground_joins.proofs.joined.useful_words.Goals as goal

pub returns : goal.returns
returns c =
    let d = domain_view c.args.domain.now in
    let p = problem_view c.args.problem.now in
    IfOk-weaker c.useful_among.result _ _ (λ w h are.
    let asked : List Words = map names_of w.words.items in
    useful_as d p asked
    (subst (λ (u : Universe). AreUseful u d.actions p.initial asked) c.in_ok-universe.ensures
    (subst (λ (is : List Initial). AreUseful (universe_view c.in_ok-universe.universe) d.actions (map initial_view is) asked) c.deref-2.ensures.value
    (subst (λ (as_ : List Action). AreUseful (universe_view c.in_ok-universe.universe) (map action_view as_) (map initial_view c.deref-2.result.now) asked) c.deref.ensures.value (h are))))) c.useful_among.ensures
