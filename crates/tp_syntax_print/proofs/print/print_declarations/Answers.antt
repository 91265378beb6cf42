use Rattle.tp_syntax_print.proofs.OnPrinters.{prints_more}
use Rattle.tp_syntax_print.proofs.print.print_declarations.Goals as goal

pub returns : goal.returns
returns g c =
    prints_more (rw c.deref.ensures.value at c.print_requirements.ensures)
    (prints_more (rw c.as_slice.ensures at c.print_type_section.ensures)
    (prints_more (rw c.deref-2.ensures.value at c.print_constants.ensures)
    (prints_more (rw c.deref-3.ensures.value at c.print_predicates.ensures) (rw c.deref-4.ensures.value at c.print_functions.ensures))))
