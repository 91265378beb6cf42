use Rattle.tp_syntax_print.proofs.OnPrinters.{prints_more}
use Rattle.tp_syntax_print.proofs.print.print_fields.Goals as goal

pub returns : goal.returns
returns g c =
    prints_more c.put.ensures (prints_more c.print_variables.ensures c.print_body.ensures)
