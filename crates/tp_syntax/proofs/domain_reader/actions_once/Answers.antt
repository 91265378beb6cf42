use Rattle.std.proofs.Common.{List, Option, map, not, string_bytes, ap, ◌∙◌}
use Rattle.std.proofs.lemmas.Result.{err_from_is_err_and}
use Rattle.tp_syntax_ast.specs.Gives.{◌>>=◌, provided}
use Rattle.tp_syntax_ast.specs.Actions as actions
use Rattle.tp_syntax_ast.specs.TypedLists.{has_twice}
use Rattle.tp_syntax_ast.specs.DomainViews.{action_view}
use Rattle.tp_syntax_ast.specs.declared.action.Action.{Action}
use Rattle.tp_syntax_ast.proofs.OnGives.{fails_bind}
use Rattle.tp_syntax_types.proofs.OnTables.{map_twice, some_twice, none_twice}
use Rattle.tp_syntax.proofs.domain_reader.actions_once.Goals as goal

pub returns-in_err-actions : goal.returns-in_err-actions
returns-in_err-actions c =
    let p = err_from_is_err_and c.from_residual.result c.from_residual.ensures.1 in
    rw (p.1, p.2) (fails_bind c.in_err-actions.field-0.0 _ _ c.in_err-actions.ensures)

pub returns-in-Some : goal.returns-in-Some
returns-in-Some c =
    let as_ = c.in_ok-actions.actions.items in
    ap (λ (o : Option (List actions.Action)). o >>= λ bs. provided (not (has_twice (map (λ a. a.name) bs))) bs) c.in_ok-actions.ensures
    ∙ ap (λ b. provided (not b) (map action_view as_))
    (ap has_twice (map_twice (λ (a : actions.Action). a.name) action_view as_) ∙ some_twice (λ (a : Action). string_bytes a.name) as_ _ c.in_ok-number.field-0 _ c.in_ok-number.ensures c.deref.ensures.value c.in-Some.is)

pub returns : goal.returns
returns c =
    let as_ = c.in_ok-actions.actions.items in
    ap (λ (o : Option (List actions.Action)). o >>= λ bs. provided (not (has_twice (map (λ a. a.name) bs))) bs) c.in_ok-actions.ensures
    ∙ ap (λ b. provided (not b) (map action_view as_))
    (ap has_twice (map_twice (λ (a : actions.Action). a.name) action_view as_) ∙ none_twice (λ (a : Action). string_bytes a.name) as_ _ c.in_ok-number.field-0 c.in_ok-number.ensures c.deref.ensures.value c.in_default.is)
