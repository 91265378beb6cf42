use Rattle.std.proofs.Common.{refl, map, arith, ◌∷◌}
use Rattle.std.proofs.lemmas.Grind.{common_steps}
use Rattle.tp_text.specs.Texts.{shape_text, more_text}
use Rattle.tp_syntax_ast.specs.Effects.{constraints_in}
use Rattle.tp_syntax_ast.specs.ConstraintViews.{constraint_view}
use Rattle.tp_syntax_print.specs.Printing.{constraint_shape, constraint_shapes}
use Rattle.tp_syntax_print.proofs.OnPrinters.{prints_more, prints_as, goes_on, ends}
use Rattle.tp_syntax_print.proofs.OnPrintingForms.{constraints_text, limit_text}
use Rattle.tp_syntax_print.proofs.print_parts.+print_constraint.Goals as goal

pub print_constraints-loop-constraint-preserved : goal.print_constraints-loop-constraint-preserved
print_constraints-loop-constraint-preserved g t c =
    goes_on (λ xs. more_text (constraint_shapes (constraints_in (map constraint_view xs)))) (λ x. 32 ∷ shape_text (constraint_shape (constraint_view x))) c.args.constraints.now c.loop-constraint.constraint-index c.constraint-item.result (λ y ys. refl) c.loop-constraint-test.true c.constraint-item.is (prints_as (prints_more c.put.ensures c.print_constraint.ensures) (grind (arith, common_steps))) c.loop-constraint.invariant

pub print_constraints-returns : goal.print_constraints-returns
print_constraints-returns g t c =
    ends (λ xs. more_text (constraint_shapes (constraints_in (map constraint_view xs)))) (λ x. 32 ∷ shape_text (constraint_shape (constraint_view x))) c.args.constraints.now c.loop-constraint.constraint-index refl c.loop-constraint-test.false c.loop-constraint.invariant

pub print_constraint-returns-in-And : goal.print_constraint-returns-in-And
print_constraint-returns-in-And g t c =
    prints_as (prints_more c.put.ensures (prints_more (rw c.deref.ensures.value at c.print_constraints.ensures) c.put-in-And.ensures)) (constraints_text c.args.constraint.now c.in-And.constraints c.in-And.is)

pub print_constraint-returns-in-Limit : goal.print_constraint-returns-in-Limit
print_constraint-returns-in-Limit g t c =
    prints_as (prints_more c.put-in-Limit.ensures (prints_more (rw c.comparison_word.ensures at c.put-in-Limit-2.ensures) (prints_more c.put-in-Limit-3.ensures (prints_more c.print_expr.ensures c.put-in-Limit-4.ensures)))) (limit_text c.args.constraint.now c.in-Limit.comparison c.in-Limit.value c.in-Limit.is)
