use Rattle.std.proofs.Common.{refl, map, arith, ◌∷◌}
use Rattle.std.proofs.lemmas.Grind.{common_steps}
use Rattle.tp_text.specs.Texts.{shape_text, more_text}
use Rattle.tp_syntax_ast.specs.Symbols.{signature_view}
use Rattle.tp_syntax_print.specs.Printing.{signature_shape, signature_shapes}
use Rattle.tp_syntax_print.proofs.OnPrinters.{prints_more, prints_as, goes_on, ends}
use Rattle.tp_syntax_print.proofs.print.print_signatures.Goals as goal

pub loop-signature-preserved : goal.loop-signature-preserved
loop-signature-preserved g c =
    goes_on (λ xs. more_text (signature_shapes (map signature_view xs))) (λ x. 32 ∷ shape_text (signature_shape (signature_view x))) c.args.signatures.now c.loop-signature.signature-index c.signature-item.result (λ y ys. refl) c.loop-signature-test.true c.signature-item.is (prints_as (prints_more c.put.ensures c.print_signature.ensures) (grind (arith, common_steps))) c.loop-signature.invariant

pub returns : goal.returns
returns g c =
    ends (λ xs. more_text (signature_shapes (map signature_view xs))) (λ x. 32 ∷ shape_text (signature_shape (signature_view x))) c.args.signatures.now c.loop-signature.signature-index refl c.loop-signature-test.false c.loop-signature.invariant
