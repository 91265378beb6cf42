use Rattle.std.proofs.Common.{map, drop}
use Rattle.tp_text.specs.Texts.{more_text}
use Rattle.tp_syntax_ast.specs.Symbols.{signature_view}
use Rattle.tp_syntax_print.specs.declared.printer.Printer.{Printer}
use Rattle.tp_syntax_print.specs.Printers.{Prints}
use Rattle.tp_syntax_print.specs.Printing.{signature_shapes}
use Rattle.tp_syntax_print.proofs.print.print_signatures.Given as goal

abbrev pub invariant-loop-signature : goal.invariant-loop-signature
invariant-loop-signature g l =
    (new : Printer g.row.W.Denot) → Prints g.W.Sink.held g.W.Sink.failures l.out new (more_text (signature_shapes (map signature_view (drop l.signature-index l.signatures)))) → Prints g.W.Sink.held g.W.Sink.failures l.fn.out new (more_text (signature_shapes (map signature_view l.signatures)))
