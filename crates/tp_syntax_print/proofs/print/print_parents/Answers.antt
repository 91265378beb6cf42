use Rattle.std.proofs.Common.{refl, map, codes, string_bytes, arith, ◌∷◌, ◌++◌}
use Rattle.std.proofs.lemmas.Grind.{common_steps}
use Rattle.tp_text.specs.Texts.{more_text}
use Rattle.tp_syntax_ast.specs.Symbols.{parent_view}
use Rattle.tp_syntax_ast.specs.declared.types.TypeName.{TypeName}
use Rattle.tp_syntax_print.specs.Printing.{type_shapes}
use Rattle.tp_syntax_print.proofs.OnPrinters.{prints_more, prints_as, goes_on, ends}
use Rattle.tp_syntax_print.proofs.print.print_parents.Goals as goal

pub loop-declared-preserved : goal.loop-declared-preserved
loop-declared-preserved g c =
    goes_on (λ xs. more_text (type_shapes (map parent_view xs))) (λ (x : TypeName). 32 ∷ (string_bytes x.name ++ (codes " - " ++ string_bytes x.parent.value))) c.args.types.now c.loop-declared.declared-index c.declared-item.result (λ y ys. (grind (arith, common_steps))) c.loop-declared-test.true c.declared-item.is (prints_as (prints_more c.put.ensures (prints_more c.put-in-loop-declared.ensures (prints_more c.put-in-loop-declared-2.ensures c.put-in-loop-declared-3.ensures))) (grind (arith, common_steps))) c.loop-declared.invariant

pub returns : goal.returns
returns g c =
    ends (λ xs. more_text (type_shapes (map parent_view xs))) (λ (x : TypeName). 32 ∷ (string_bytes x.name ++ (codes " - " ++ string_bytes x.parent.value))) c.args.types.now c.loop-declared.declared-index refl c.loop-declared-test.false c.loop-declared.invariant
