use Rattle.std.proofs.Common.{map, drop}
use Rattle.tp_text.specs.Texts.{more_text}
use Rattle.tp_syntax_ast.specs.Symbols.{parent_view}
use Rattle.tp_syntax_print.specs.declared.printer.Printer.{Printer}
use Rattle.tp_syntax_print.specs.Printers.{Prints}
use Rattle.tp_syntax_print.specs.Printing.{type_shapes}
use Rattle.tp_syntax_print.proofs.print.print_parents.Given as goal

abbrev pub invariant-loop-declared : goal.invariant-loop-declared
invariant-loop-declared g l =
    (new : Printer g.row.W.Denot) → Prints g.W.Sink.held g.W.Sink.failures l.out new (more_text (type_shapes (map parent_view (drop l.declared-index l.types)))) → Prints g.W.Sink.held g.W.Sink.failures l.fn.out new (more_text (type_shapes (map parent_view l.types)))
