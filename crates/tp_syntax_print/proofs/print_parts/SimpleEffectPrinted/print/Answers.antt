use Rattle.std.proofs.Common.{arith}
use Rattle.std.proofs.lemmas.Grind.{common_steps}
use Rattle.tp_syntax_print.proofs.OnPrinters.{prints_more, prints_as}
use Rattle.tp_syntax_print.proofs.print_parts.SimpleEffectPrinted.print.Goals as goal

pub returns-in-Delete : goal.returns-in-Delete
returns-in-Delete g c =
    prints_as (prints_more c.put.ensures (prints_more c.print_atom-in-Delete.ensures c.put-in-Delete.ensures)) (grind (arith, common_steps))
