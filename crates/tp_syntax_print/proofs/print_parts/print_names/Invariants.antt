use Rattle.std.proofs.Common.{map, drop, string_bytes}
use Rattle.tp_text.specs.Texts.{more_text}
use Rattle.tp_syntax_print.specs.declared.printer.Printer.{Printer}
use Rattle.tp_syntax_print.specs.Printers.{Prints}
use Rattle.tp_syntax_print.specs.Printing.{name_shapes}
use Rattle.tp_syntax_print.proofs.print_parts.print_names.Given as goal

abbrev pub invariant-loop-name : goal.invariant-loop-name
invariant-loop-name g l =
    (new : Printer g.row.W.Denot) → Prints g.W.Sink.held g.W.Sink.failures l.out new (more_text (name_shapes (map string_bytes (drop l.name-index l.names)))) → Prints g.W.Sink.held g.W.Sink.failures l.fn.out new (more_text (name_shapes (map string_bytes l.names)))
