use Rattle.std.proofs.Common.{arith}
use Rattle.std.proofs.lemmas.Grind.{common_steps}
use Rattle.tp_syntax_print.proofs.OnPrinters.{prints_more, prints_as}
use Rattle.tp_syntax_print.proofs.OnPrintingForms.{sum_text, negated_text, difference_text, product_text}
use Rattle.tp_syntax_print.proofs.print_parts.+print_expr.Goals as goal

pub print_last_operand-returns : goal.print_last_operand-returns
print_last_operand-returns g t c =
    prints_as (prints_more c.put.ensures (prints_more c.print_expr.ensures c.put-2.ensures)) (grind (arith, common_steps))

pub print_expr-returns-in-Sum : goal.print_expr-returns-in-Sum
print_expr-returns-in-Sum g t c =
    prints_as (prints_more c.put.ensures (prints_more (rw c.deref.ensures at c.print_expr.ensures) (rw c.deref-in-Sum.ensures at c.print_last_operand.ensures))) (sum_text c.args.expr.now c.in-Sum.a c.in-Sum.b c.in-Sum.is)

pub print_expr-returns-in-Negated : goal.print_expr-returns-in-Negated
print_expr-returns-in-Negated g t c =
    prints_as (prints_more c.put-in-Negated.ensures (rw c.deref-in-Negated.ensures at c.print_last_operand-in-Negated.ensures)) (negated_text c.args.expr.now c.in-Negated.a c.in-Negated.is)

pub print_expr-returns-in-Difference : goal.print_expr-returns-in-Difference
print_expr-returns-in-Difference g t c =
    prints_as (prints_more c.put-in-Difference.ensures (prints_more (rw c.deref-in-Difference.ensures at c.print_expr-in-Difference.ensures) (rw c.deref-in-Difference-2.ensures at c.print_last_operand-in-Difference.ensures))) (difference_text c.args.expr.now c.in-Difference.a c.in-Difference.b c.in-Difference.is)

pub print_expr-returns-in-Product : goal.print_expr-returns-in-Product
print_expr-returns-in-Product g t c =
    prints_as (prints_more c.put-in-Product.ensures (prints_more (rw c.deref-in-Product.ensures at c.print_expr-in-Product.ensures) (rw c.deref-in-Product-2.ensures at c.print_last_operand-in-Product.ensures))) (product_text c.args.expr.now c.in-Product.a c.in-Product.b c.in-Product.is)
