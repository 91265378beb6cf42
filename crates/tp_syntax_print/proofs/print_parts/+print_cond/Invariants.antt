use Rattle.std.proofs.Common.{map, drop}
use Rattle.tp_text.specs.Texts.{more_text}
use Rattle.tp_syntax_ast.specs.Conditions.{conditions}
use Rattle.tp_syntax_ast.specs.CondViews.{cond_view}
use Rattle.tp_syntax_print.specs.declared.printer.Printer.{Printer}
use Rattle.tp_syntax_print.specs.Printers.{Prints}
use Rattle.tp_syntax_print.specs.Printing.{condition_shapes}
use Rattle.tp_syntax_print.proofs.print_parts.+print_cond.Given as goal

abbrev pub invariant-print_conds-loop-cond : goal.invariant-print_conds-loop-cond
invariant-print_conds-loop-cond g l =
    (new : Printer g.row.W.Denot) → Prints g.W.Sink.held g.W.Sink.failures l.out new (more_text (condition_shapes (conditions (map cond_view (drop l.cond-index l.conds))))) → Prints g.W.Sink.held g.W.Sink.failures l.fn.out new (more_text (condition_shapes (conditions (map cond_view l.conds))))
