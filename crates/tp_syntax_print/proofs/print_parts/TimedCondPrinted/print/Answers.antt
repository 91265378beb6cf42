use Rattle.tp_syntax_ast.specs.CondViews.{cond_view}
use Rattle.tp_syntax_print.specs.Printing.{condition_shape}
use Rattle.tp_syntax_print.proofs.OnPrinters.{prints_more, prints_as}
use Rattle.tp_syntax_print.proofs.OnPrintingForms.{specified_text}
use Rattle.tp_syntax_print.proofs.print_parts.TimedCondPrinted.print.Goals as goal

pub returns : goal.returns
returns g c =
    prints_as (prints_more (rw c.specifier_words.ensures at c.put.ensures) (prints_more c.print_cond.ensures c.put-2.ensures)) (specified_text c.args.self.now.specifier (condition_shape (cond_view c.args.self.now.what)))
