use Rattle.std.proofs.Common.{◌≡◌, ◌+◌, ◌++◌, Bool, not, List, drop, ap, ap₂, ◌∙◌}
use Rattle.std.specs.List.{list_any}
use Rattle.tp_bounds.specs.declared.Bound.{Bound}
use Rattle.tp_deorder.specs.Inequalities.{earlier, only_if}
use Rattle.tp_deorder.specs.Kept.{some_before, nearest, mark_at, is_told}
use Rattle.tp_deorder.proofs.OnSteps.{next_found}
use Rattle.tp_deorder.proofs.OnRows.{nearest_step}
use Rattle.tp_deorder.proofs.orders.note_nearest.Goals as goal

pub loop-b-preserved : goal.loop-b-preserved
loop-b-preserved c =
    let before = is_told c.args.rows.now in
    let a = c.args.a.now in
    let after = c.args.after.now in
    let b = c.b-item.result in
    let body : List Bound = only_if (not (some_before before after b)) (earlier a.number b.number) in
    let same : c.some_before-stands_between.result ≡ some_before before after b = c.some_before-stands_between.ensures ∙ ap (λ (m : List Bool). list_any (mark_at m) after) c.row_at.ensures in
    let new : c.note_if.new.bounds.items ≡ c.loop-b.bounds.items ++ body = c.in_ok-note_if.ensures ∙ ap₂ (λ s (x : Bound). c.loop-b.bounds.items ++ only_if (not s) x) same (c.earlier.ensures ∙ ap₂ earlier c.number.ensures c.number-in-loop-b.ensures) in
    next_found c.loop-b.bounds.items c.note_if.new.bounds.items body (nearest before a after (drop (c.loop-b.b-index + 1) after)) (nearest before a after (drop c.loop-b.b-index after)) _ new
    (nearest_step before a after after c.loop-b.b-index b c.loop-b-test.true c.b-item.is) c.loop-b.invariant
