use Rattle.std.proofs.Common.{map, drop}
use Rattle.tp_text.specs.Texts.{more_text}
use Rattle.tp_syntax_ast.specs.Terms.{term_view}
use Rattle.tp_syntax_print.specs.declared.printer.Printer.{Printer}
use Rattle.tp_syntax_print.specs.Printers.{Prints}
use Rattle.tp_syntax_print.specs.Printing.{argument_shapes}
use Rattle.tp_syntax_print.proofs.print_parts.print_terms.Given as goal

abbrev pub invariant-loop-term : goal.invariant-loop-term
invariant-loop-term g l =
    (new : Printer g.row.W.Denot) → Prints g.W.Sink.held g.W.Sink.failures l.out new (more_text (argument_shapes (map term_view (drop l.term-index l.terms)))) → Prints g.W.Sink.held g.W.Sink.failures l.fn.out new (more_text (argument_shapes (map term_view l.terms)))
