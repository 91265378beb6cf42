use Rattle.std.proofs.Common.{map, drop}
use Rattle.tp_text.specs.Texts.{more_text}
use Rattle.tp_syntax_ast.specs.Parts.{parts}
use Rattle.tp_syntax_ast.specs.PartViews.{joined_view}
use Rattle.tp_syntax_print.specs.declared.printer.Printer.{Printer}
use Rattle.tp_syntax_print.specs.Printers.{Prints}
use Rattle.tp_syntax_print.specs.Printing.{part_shapes}
use Rattle.tp_syntax_print.proofs.print_parts.+print_joined.Given as goal

abbrev pub invariant-print_parts-loop-part : goal.invariant-print_parts-loop-part
invariant-print_parts-loop-part g l =
    (new : Printer g.row.W.Denot) → Prints g.W.Sink.held g.W.Sink.failures l.out new (more_text (part_shapes g.P.Printed.tree (parts (map (joined_view g.P.Printed.seen) (drop l.part-index l.members))))) → Prints g.W.Sink.held g.W.Sink.failures l.fn.out new (more_text (part_shapes g.P.Printed.tree (parts (map (joined_view g.P.Printed.seen) l.members))))
