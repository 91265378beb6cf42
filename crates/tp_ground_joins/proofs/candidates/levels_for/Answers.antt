use Rattle.std.proofs.Common.{List, map, sym, ap, subst, ◌∙◌}
use Rattle.std.proofs.lemmas.Result.{IfOk-weaker}
use Rattle.tp_syntax_ast.specs.DomainViews.{action_view, initial_view}
use Rattle.tp_ground_bindings.specs.Rows.{Names, lists_of}
use Rattle.tp_ground_bindings.specs.Views.{universe_view}
use Rattle.tp_ground_joins.specs.Levels.{AreStatic}
use Rattle.tp_ground_joins.proofs.OnCandidates.{allowed_bindings}
use Rattle.tp_ground_joins.proofs.candidates.levels_for.Goals as goal

pub returns : goal.returns
returns c =
    let as_ = map action_view c.args.actions.now in
    let is = map initial_view c.args.initial.now in
    let a = c.args.action.now in
    IfOk-weaker c.levels_from.result _ _ (λ v h.
    allowed_bindings (universe_view c.args.universe.now) as_ is a c.as_slice-parameters.result.now c.as_slice-fixed.result.now (lists_of c.as_slice-names.result.now) v.items c.as_slice-parameters.ensures
    (ap (λ (ls : List Names). lists_of ls) c.as_slice-names.ensures.value ∙ c.in_ok-lists.ensures)
    (subst (AreStatic as_ is (action_view a)) (sym c.as_slice-fixed.ensures.value) c.in_ok-statics.ensures) h) c.levels_from.ensures
