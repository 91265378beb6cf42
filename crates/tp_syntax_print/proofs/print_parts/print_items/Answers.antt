use Rattle.std.proofs.Common.{refl, map, arith, ◌∷◌}
use Rattle.std.proofs.lemmas.Grind.{common_steps}
use Rattle.tp_text.specs.Texts.{more_text}
use Rattle.tp_syntax_ast.specs.Symbols.{typed_view}
use Rattle.tp_syntax_print.specs.Printing.{typed_shapes}
use Rattle.tp_syntax_print.specs.DomainTexts.{item_text}
use Rattle.tp_syntax_print.proofs.OnPrinters.{prints_more, prints_as, goes_on, ends}
use Rattle.tp_syntax_print.proofs.print_parts.print_items.Goals as goal

pub loop-item-preserved : goal.loop-item-preserved
loop-item-preserved g c =
    goes_on (λ xs. more_text (typed_shapes (map typed_view xs))) (λ x. 32 ∷ item_text (typed_view x)) c.args.items.now c.loop-item.item-index c.item-item.result (λ y ys. (grind (arith, common_steps))) c.loop-item-test.true c.item-item.is (prints_as (prints_more c.put.ensures c.print_item.ensures) (grind (arith, common_steps))) c.loop-item.invariant

pub returns : goal.returns
returns g c =
    ends (λ xs. more_text (typed_shapes (map typed_view xs))) (λ x. 32 ∷ item_text (typed_view x)) c.args.items.now c.loop-item.item-index refl c.loop-item-test.false c.loop-item.invariant
