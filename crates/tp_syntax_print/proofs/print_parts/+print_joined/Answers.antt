use Rattle.std.proofs.Common.{refl, map, ◌∷◌}
use Rattle.tp_text.specs.Texts.{shape_text, more_text}
use Rattle.tp_syntax_ast.specs.Parts.{parts}
use Rattle.tp_syntax_ast.specs.PartViews.{joined_view}
use Rattle.tp_syntax_print.specs.Printing.{joined_shape, part_shapes}
use Rattle.tp_syntax_print.proofs.OnPrinters.{prints_more, prints_as, goes_on, ends}
use Rattle.tp_syntax_print.proofs.OnPrinting.{and_text, forall_text}
use Rattle.tp_syntax_print.proofs.print_parts.+print_joined.Goals as goal

pub print_parts-loop-part-preserved : goal.print_parts-loop-part-preserved
print_parts-loop-part-preserved g t c =
    goes_on (λ xs. more_text (part_shapes g.P.Printed.tree (parts (map (joined_view g.P.Printed.seen) xs)))) (λ x. 32 ∷ shape_text (joined_shape g.P.Printed.tree (joined_view g.P.Printed.seen x))) c.args.members.now c.loop-part.part-index c.part-item.result (λ y ys. refl) c.loop-part-test.true c.part-item.is (prints_more c.put.ensures c.print_joined.ensures) c.loop-part.invariant

pub print_parts-returns : goal.print_parts-returns
print_parts-returns g t c =
    ends (λ xs. more_text (part_shapes g.P.Printed.tree (parts (map (joined_view g.P.Printed.seen) xs)))) (λ x. 32 ∷ shape_text (joined_shape g.P.Printed.tree (joined_view g.P.Printed.seen x))) c.args.members.now c.loop-part.part-index refl c.loop-part-test.false c.loop-part.invariant

pub print_joined-returns-in-And : goal.print_joined-returns-in-And
print_joined-returns-in-And g t c =
    prints_as (prints_more c.put.ensures (prints_more c.print_parts.ensures c.put-in-And.ensures)) (and_text g.P.Printed.seen g.P.Printed.tree c.args.joined.now c.in-And.parts c.deref.result.now c.in-And.is c.deref.ensures.value)

pub print_joined-returns-in-Forall : goal.print_joined-returns-in-Forall
print_joined-returns-in-Forall g t c =
    prints_as (prints_more c.put-in-Forall.ensures (prints_more c.print_variables.ensures (prints_more c.put-in-Forall-2.ensures (prints_more c.print_joined.ensures c.put-in-Forall-3.ensures)))) (forall_text g.P.Printed.seen g.P.Printed.tree c.args.joined.now c.in-Forall.variables c.in-Forall.inner c.in-Forall.variables.items c.deref-in-Forall.result.now c.in-Forall.is refl c.deref-in-Forall.ensures)
