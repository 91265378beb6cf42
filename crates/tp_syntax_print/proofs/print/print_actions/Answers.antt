use Rattle.std.proofs.Common.{refl, sym, map, append_assoc, ◌∷◌, ◌++◌, []}
use Rattle.tp_text.specs.Texts.{shape_text}
use Rattle.tp_syntax_ast.specs.DomainViews.{action_view}
use Rattle.tp_syntax_print.specs.Printing.{action_shape, action_shapes}
use Rattle.tp_syntax_print.specs.DomainTexts.{lines_text}
use Rattle.tp_syntax_print.proofs.OnPrinters.{goes_on, ends}
use Rattle.tp_syntax_print.proofs.print.print_actions.Goals as goal

pub loop-action-preserved : goal.loop-action-preserved
loop-action-preserved g c =
    goes_on (λ xs. lines_text (action_shapes (map action_view xs))) (λ x. shape_text (action_shape (action_view x)) ++ 10 ∷ []) c.args.actions.now c.loop-action.action-index c.action-item.result (λ y ys. sym (append_assoc (shape_text (action_shape (action_view y))) (10 ∷ []) (lines_text (action_shapes (map action_view ys))))) c.loop-action-test.true c.action-item.is c.print_action.ensures c.loop-action.invariant

pub returns : goal.returns
returns g c =
    ends (λ xs. lines_text (action_shapes (map action_view xs))) (λ x. shape_text (action_shape (action_view x)) ++ 10 ∷ []) c.args.actions.now c.loop-action.action-index refl c.loop-action-test.false c.loop-action.invariant
