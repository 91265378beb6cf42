use Rattle.std.proofs.Common.{Some, map, option_map, [], ◌∷◌, ap, sym, ◌∙◌}
use Rattle.std.proofs.lemmas.List.{map-append}
use Rattle.std.proofs.lemmas.Result.{err_from_is_err_and}
use Rattle.tp_syntax_ast.specs.Gives.{with_front}
use Rattle.tp_syntax_scope.specs.SymbolViews.{symbols_view}
use Rattle.tp_syntax_ast.specs.Actions.{Action}
use Rattle.tp_syntax_ast.specs.DomainViews.{action_view}
use Rattle.tp_syntax_ast.proofs.OnGives.{fails_same, fails_map}
use Rattle.tp_syntax.proofs.OnDomains.{no_action_at, one_action_at}
use Rattle.tp_syntax.proofs.domain_reader.add_action.Goals as goal

pub returns-in_default : goal.returns-in_default
returns-in_default c = no_action_at (symbols_view c.args.symbols.now) _ _ _ (sym c.in_default.ensures)

pub returns-in_err-read_action : goal.returns-in_err-read_action
returns-in_err-read_action c =
    let p = err_from_is_err_and c.from_residual.result c.from_residual.ensures.1 in
    rw (p.1, p.2) (fails_same c.in_err-read_action.field-0.0 _ _ (one_action_at (symbols_view c.args.symbols.now) _ _ _ (sym c.in-Some.ensures)) (fails_map (λ (a : Action). a ∷ []) c.in_err-read_action.field-0.0 _ c.in_err-read_action.ensures))

pub returns : goal.returns
returns c =
    ap (with_front (map action_view c.args.actions.now.items)) (one_action_at (symbols_view c.args.symbols.now) _ _ _ (sym c.in-Some.ensures) ∙ ap (option_map (λ (a : Action). a ∷ [])) c.in_ok-read_action.ensures)
    ∙ ap Some (sym (ap (map action_view) c.in_ok-push.ensures.items ∙ map-append action_view _ _))
