use Rattle.std.proofs.Common.{map, drop}
use Rattle.tp_syntax_ast.specs.DomainViews.{action_view}
use Rattle.tp_syntax_print.specs.declared.printer.Printer.{Printer}
use Rattle.tp_syntax_print.specs.Printers.{Prints}
use Rattle.tp_syntax_print.specs.Printing.{action_shapes}
use Rattle.tp_syntax_print.specs.DomainTexts.{lines_text}
use Rattle.tp_syntax_print.proofs.print.print_actions.Given as goal

abbrev pub invariant-loop-action : goal.invariant-loop-action
invariant-loop-action g l =
    (new : Printer g.row.W.Denot) → Prints g.W.Sink.held g.W.Sink.failures l.out new (lines_text (action_shapes (map action_view (drop l.action-index l.actions)))) → Prints g.W.Sink.held g.W.Sink.failures l.fn.out new (lines_text (action_shapes (map action_view l.actions)))
