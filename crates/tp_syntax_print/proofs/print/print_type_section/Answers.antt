use Rattle.std.proofs.Common.{refl, sym, map, codes, ◌∙◌}
use Rattle.tp_syntax_ast.specs.Symbols.{parent_view}
use Rattle.tp_syntax_print.specs.Printing.{type_shapes}
use Rattle.tp_syntax_print.proofs.OnPrinters.{prints_more, prints_as}
use Rattle.tp_syntax_print.proofs.OnPrinting.{section_is}
use Rattle.tp_syntax_print.proofs.print.print_type_section.Goals as goal

pub returns : goal.returns
returns g c =
    prints_as (prints_more c.put.ensures (prints_more c.print_parents.ensures c.put-2.ensures)) (section_is (codes ":types") (λ xs. type_shapes (map parent_view xs)) c.args.types.now (sym c.is_empty.ensures ∙ c.if-is_empty.false) (λ x ys. (_, _, refl)))
