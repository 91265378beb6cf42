use Rattle.std.proofs.Common.{refl, map, string_bytes, arith, ◌∷◌}
use Rattle.std.proofs.lemmas.Grind.{common_steps}
use Rattle.tp_text.specs.Texts.{more_text}
use Rattle.tp_syntax_print.specs.Printing.{name_shapes}
use Rattle.tp_syntax_print.proofs.OnPrinters.{prints_more, prints_as, goes_on, ends}
use Rattle.tp_syntax_print.proofs.print_parts.print_names.Goals as goal

pub loop-name-preserved : goal.loop-name-preserved
loop-name-preserved g c =
    goes_on (λ xs. more_text (name_shapes (map string_bytes xs))) (λ x. 32 ∷ string_bytes x) c.args.names.now c.loop-name.name-index c.name-item.result (λ y ys. refl) c.loop-name-test.true c.name-item.is (prints_as (prints_more c.put.ensures c.put-in-loop-name.ensures) (grind (arith, common_steps))) c.loop-name.invariant

pub returns : goal.returns
returns g c =
    ends (λ xs. more_text (name_shapes (map string_bytes xs))) (λ x. 32 ∷ string_bytes x) c.args.names.now c.loop-name.name-index refl c.loop-name-test.false c.loop-name.invariant
