use Rattle.std.proofs.Common.{refl, map, arith, ◌∷◌}
use Rattle.std.proofs.lemmas.Grind.{common_steps}
use Rattle.tp_text.specs.Texts.{shape_text, more_text}
use Rattle.tp_syntax_ast.specs.Terms.{term_view}
use Rattle.tp_syntax_print.specs.Printing.{argument_shape, argument_shapes}
use Rattle.tp_syntax_print.proofs.OnPrinters.{prints_more, prints_as, goes_on, ends}
use Rattle.tp_syntax_print.proofs.print_parts.print_terms.Goals as goal

pub loop-term-preserved : goal.loop-term-preserved
loop-term-preserved g c =
    goes_on (λ xs. more_text (argument_shapes (map term_view xs))) (λ x. 32 ∷ shape_text (argument_shape (term_view x))) c.args.terms.now c.loop-term.term-index c.term-item.result (λ y ys. refl) c.loop-term-test.true c.term-item.is (prints_as (prints_more c.put.ensures c.print_term.ensures) (grind (arith, common_steps))) c.loop-term.invariant

pub returns : goal.returns
returns g c =
    ends (λ xs. more_text (argument_shapes (map term_view xs))) (λ x. 32 ∷ shape_text (argument_shape (term_view x))) c.args.terms.now c.loop-term.term-index refl c.loop-term-test.false c.loop-term.invariant
