use Rattle.std.proofs.Common.{string_bytes}
use Rattle.tp_syntax_print.proofs.OnPrinters.{prints_more, prints_as}
use Rattle.tp_syntax_print.proofs.OnPrinting.{name_text}
use Rattle.tp_syntax_print.proofs.print.print_name.Goals as goal

pub returns : goal.returns
returns g c =
    prints_as (prints_more c.put.ensures (prints_more c.put-2.ensures c.put-3.ensures)) (name_text c.as_bytes.result.now (string_bytes c.args.domain.now.name) c.as_bytes.ensures.value)
