use Rattle.std.proofs.Common.{map}
use Rattle.std.proofs.lemmas.Result.{err_from_is_err_and}
use Rattle.tp_syntax.specs.Fields.{field_view}
use Rattle.tp_syntax_scope.specs.ScopeViews.{scope_view, symbols_of}
use Rattle.tp_syntax.proofs.OnActions.{duration_fails, timed_condition_fails, timed_effect_fails, durative_made}
use Rattle.tp_syntax.proofs.action_reader.durative.Goals as goal

pub returns-in_err-duration : goal.returns-in_err-duration
returns-in_err-duration c =
    let p = err_from_is_err_and c.from_residual.result c.from_residual.ensures.1 in
    rw (p.1, p.2) (duration_fails (symbols_of c.args.scope.now) (scope_view c.args.scope.now) (map field_view c.args.fields.now) c.in_err-duration.field-0.0 c.in_err-duration.ensures)

pub returns-in_err-condition : goal.returns-in_err-condition
returns-in_err-condition c =
    let p = err_from_is_err_and c.from_residual-in_err-condition.result c.from_residual-in_err-condition.ensures.1 in
    rw (p.1, p.2) (timed_condition_fails (symbols_of c.args.scope.now) (scope_view c.args.scope.now) (map field_view c.args.fields.now) _ c.in_err-condition.field-0.0 c.in_ok-duration.ensures c.in_err-condition.ensures)

pub returns-in_err-effect : goal.returns-in_err-effect
returns-in_err-effect c =
    let p = err_from_is_err_and c.from_residual-in_err-effect.result c.from_residual-in_err-effect.ensures.1 in
    rw (p.1, p.2) (timed_effect_fails (symbols_of c.args.scope.now) (scope_view c.args.scope.now) (map field_view c.args.fields.now) _ _ c.in_err-effect.field-0.0 c.in_ok-duration.ensures c.in_ok-condition.ensures c.in_err-effect.ensures)

pub returns : goal.returns
returns c = durative_made (symbols_of c.args.scope.now) (scope_view c.args.scope.now) (map field_view c.args.fields.now) _ _ _ c.in_ok-duration.ensures c.in_ok-condition.ensures c.in_ok-effect.ensures
