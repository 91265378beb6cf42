use Rattle.std.proofs.Common.{refl, map, arith, ◌∷◌}
use Rattle.std.proofs.lemmas.Grind.{common_steps}
use Rattle.tp_text.specs.Texts.{shape_text, more_text}
use Rattle.tp_syntax_ast.specs.CondViews.{cond_view}
use Rattle.tp_syntax_ast.specs.Conditions.{conditions}
use Rattle.tp_syntax_print.specs.Printing.{condition_shape, condition_shapes}
use Rattle.tp_syntax_print.proofs.OnPrinters.{prints_more, prints_as, goes_on, ends}
use Rattle.tp_syntax_print.proofs.OnPrintingForms.{not_text, imply_text, all_text, some_text}
use Rattle.tp_syntax_print.proofs.print_parts.+print_cond.Goals as goal

pub print_conds-loop-cond-preserved : goal.print_conds-loop-cond-preserved
print_conds-loop-cond-preserved g t c =
    goes_on (λ xs. more_text (condition_shapes (conditions (map cond_view xs)))) (λ x. 32 ∷ shape_text (condition_shape (cond_view x))) c.args.conds.now c.loop-cond.cond-index c.cond-item.result (λ y ys. refl) c.loop-cond-test.true c.cond-item.is (prints_as (prints_more c.put.ensures c.print_cond.ensures) (grind (arith, common_steps))) c.loop-cond.invariant

pub print_conds-returns : goal.print_conds-returns
print_conds-returns g t c =
    ends (λ xs. more_text (condition_shapes (conditions (map cond_view xs)))) (λ x. 32 ∷ shape_text (condition_shape (cond_view x))) c.args.conds.now c.loop-cond.cond-index refl c.loop-cond-test.false c.loop-cond.invariant

pub print_junction-returns : goal.print_junction-returns
print_junction-returns g t c =
    prints_as (prints_more c.put.ensures (prints_more c.print_conds.ensures c.put-2.ensures)) (grind (arith, common_steps))

pub print_last_cond-returns : goal.print_last_cond-returns
print_last_cond-returns g t c =
    prints_as (prints_more c.put.ensures (prints_more c.print_cond.ensures c.put-2.ensures)) (grind (arith, common_steps))

pub print_cond-returns-in-Not : goal.print_cond-returns-in-Not
print_cond-returns-in-Not g t c =
    prints_as (prints_more c.put.ensures (rw c.deref-in-Not.ensures at c.print_last_cond.ensures)) (not_text c.args.cond.now c.in-Not.inner c.in-Not.is)

pub print_cond-returns-in-Imply : goal.print_cond-returns-in-Imply
print_cond-returns-in-Imply g t c =
    prints_as (prints_more c.put-in-Imply.ensures (prints_more (rw c.deref-in-Imply.ensures at c.print_cond.ensures) (rw c.deref-in-Imply-2.ensures at c.print_last_cond-in-Imply.ensures))) (imply_text c.args.cond.now c.in-Imply.a c.in-Imply.b c.in-Imply.is)

pub print_cond-returns-in-Forall : goal.print_cond-returns-in-Forall
print_cond-returns-in-Forall g t c =
    prints_as (prints_more c.put-in-Forall.ensures (prints_more c.print_variables.ensures (rw c.deref-in-Forall.ensures at c.print_last_cond-in-Forall.ensures))) (all_text c.args.cond.now c.in-Forall.variables c.in-Forall.inner c.in-Forall.is)

pub print_cond-returns-in-Exists : goal.print_cond-returns-in-Exists
print_cond-returns-in-Exists g t c =
    prints_as (prints_more c.put-in-Exists.ensures (prints_more c.print_variables-in-Exists.ensures (rw c.deref-in-Exists.ensures at c.print_last_cond-in-Exists.ensures))) (some_text c.args.cond.now c.in-Exists.variables c.in-Exists.inner c.in-Exists.is)
