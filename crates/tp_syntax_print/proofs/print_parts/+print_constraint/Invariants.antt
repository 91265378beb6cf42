use Rattle.std.proofs.Common.{map, drop}
use Rattle.tp_text.specs.Texts.{more_text}
use Rattle.tp_syntax_ast.specs.Effects.{constraints_in}
use Rattle.tp_syntax_ast.specs.ConstraintViews.{constraint_view}
use Rattle.tp_syntax_print.specs.declared.printer.Printer.{Printer}
use Rattle.tp_syntax_print.specs.Printers.{Prints}
use Rattle.tp_syntax_print.specs.Printing.{constraint_shapes}
use Rattle.tp_syntax_print.proofs.print_parts.+print_constraint.Given as goal

abbrev pub invariant-print_constraints-loop-constraint : goal.invariant-print_constraints-loop-constraint
invariant-print_constraints-loop-constraint g l =
    (new : Printer g.row.W.Denot) → Prints g.W.Sink.held g.W.Sink.failures l.out new (more_text (constraint_shapes (constraints_in (map constraint_view (drop l.constraint-index l.constraints))))) → Prints g.W.Sink.held g.W.Sink.failures l.fn.out new (more_text (constraint_shapes (constraints_in (map constraint_view l.constraints))))
