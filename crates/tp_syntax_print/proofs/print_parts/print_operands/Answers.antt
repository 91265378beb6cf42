use Rattle.std.proofs.Common.{arith}
use Rattle.std.proofs.lemmas.Grind.{common_steps}
use Rattle.tp_syntax_print.proofs.OnPrinters.{prints_more, prints_as}
use Rattle.tp_syntax_print.proofs.print_parts.print_operands.Goals as goal

pub returns : goal.returns
returns g c =
    prints_as (prints_more c.put.ensures (prints_more c.print_expr.ensures c.print_last_operand.ensures)) (grind (arith, common_steps))
