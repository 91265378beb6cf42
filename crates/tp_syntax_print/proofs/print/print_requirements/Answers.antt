use Rattle.std.proofs.Common.{refl, sym, map, codes, string_bytes, ◌∙◌}
use Rattle.tp_syntax_print.specs.Printing.{name_shapes}
use Rattle.tp_syntax_print.proofs.OnPrinters.{prints_more, prints_as}
use Rattle.tp_syntax_print.proofs.OnPrinting.{section_is}
use Rattle.tp_syntax_print.proofs.print.print_requirements.Goals as goal

pub returns : goal.returns
returns g c =
    prints_as (prints_more c.put.ensures (prints_more c.print_names.ensures c.put-2.ensures)) (section_is (codes ":requirements") (λ xs. name_shapes (map string_bytes xs)) c.args.words.now (sym c.is_empty.ensures ∙ c.if-is_empty.false) (λ x ys. (_, _, refl)))
