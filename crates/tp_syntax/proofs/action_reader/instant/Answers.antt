use Rattle.std.proofs.Common.{map}
use Rattle.std.proofs.lemmas.Result.{err_from_is_err_and}
use Rattle.tp_syntax.specs.Fields.{field_view}
use Rattle.tp_syntax_scope.specs.ScopeViews.{scope_view, symbols_of}
use Rattle.tp_syntax.proofs.OnActions.{instant_condition_fails, instant_effect_fails, instant_made}
use Rattle.tp_syntax.proofs.action_reader.instant.Goals as goal

pub returns-in_err-precondition : goal.returns-in_err-precondition
returns-in_err-precondition c =
    let p = err_from_is_err_and c.from_residual.result c.from_residual.ensures.1 in
    rw (p.1, p.2) (instant_condition_fails (symbols_of c.args.scope.now) (scope_view c.args.scope.now) (map field_view c.args.fields.now) c.in_err-precondition.field-0.0 c.in_err-precondition.ensures)

pub returns-in_err-effect : goal.returns-in_err-effect
returns-in_err-effect c =
    let p = err_from_is_err_and c.from_residual-in_err-effect.result c.from_residual-in_err-effect.ensures.1 in
    rw (p.1, p.2) (instant_effect_fails (symbols_of c.args.scope.now) (scope_view c.args.scope.now) (map field_view c.args.fields.now) _ c.in_err-effect.field-0.0 c.in_ok-precondition.ensures c.in_err-effect.ensures)

pub returns : goal.returns
returns c = instant_made (symbols_of c.args.scope.now) (scope_view c.args.scope.now) (map field_view c.args.fields.now) _ _ c.in_ok-precondition.ensures c.in_ok-effect.ensures
