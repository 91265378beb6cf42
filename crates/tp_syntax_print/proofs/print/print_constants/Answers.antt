use Rattle.std.proofs.Common.{refl, sym, map, codes, ◌∙◌}
use Rattle.tp_syntax_ast.specs.Symbols.{typed_view}
use Rattle.tp_syntax_print.specs.Printing.{typed_shapes}
use Rattle.tp_syntax_print.proofs.OnPrinters.{prints_more, prints_as}
use Rattle.tp_syntax_print.proofs.OnPrinting.{section_is}
use Rattle.tp_syntax_print.proofs.print.print_constants.Goals as goal

pub returns : goal.returns
returns g c =
    prints_as (prints_more c.put.ensures (prints_more c.print_items.ensures c.put-2.ensures)) (section_is (codes ":constants") (λ xs. typed_shapes (map typed_view xs)) c.args.constants.now (sym c.is_empty.ensures ∙ c.if-is_empty.false) (λ x ys. (_, _, refl)))
