use Rattle.std.proofs.Common.{◌≡◌, ◌<◌, ◌≤◌, true, false, ◌||◌, length, refl, sym, ap, ap₂, subst, ◌∙◌, arith}
use Rattle.std.proofs.lemmas.List.{take_all}
use Rattle.std.proofs.lemmas.List.Folds.{list_any_more, list_any_at}
use Rattle.tp_search.specs.declared.sides.Side.{Side}
use Rattle.tp_search.specs.Possible.{only_event}
use Rattle.tp_search.specs.Sides.{IsSide, meet_with}
use Rattle.tp_search.proofs.OnSides.{told_by_sides, meets_by}
use Rattle.tp_search.proofs.sides.sides_meet.Goals as goal

pub loop-side-preserved : goal.loop-side-preserved
loop-side-preserved c e are =
    let o = only_event c.args.task.now c.args.other in
    let sides = c.args.sides.now in
    let i = c.loop-side.side-index in
    let side = c.side-item.result in
    let test = λ (s : Side). meet_with s.way e o in
    let one : IsSide e side = subst (IsSide e) (sym c.side-item.is) (are i side (omega arith)) in
    list_any_more test sides i side (omega arith)
    ∙ ap₂ ◌||◌ (c.loop-side.invariant e are) (sym (ap test c.side-item.is) ∙ (sym (c.in_ok-meet_in.ensures e one) ∙ c.if-branch.false))

pub returns-then-branch : goal.returns-then-branch
returns-then-branch c action are =
    let o = only_event c.args.task.now c.args.other in
    let sides = c.args.sides.now in
    let i = c.loop-side.side-index in
    let side = c.side-item.result in
    let l : i < length sides = omega arith in
    told_by_sides c.args.task.now action c.args.other sides true are
    (λ none. let z : length sides ≡ 0 = ap length none in absurd (omega arith))
    (λ e h.
    let test = λ (s : Side). meet_with s.way e o in
    let one : IsSide e side = subst (IsSide e) (sym c.side-item.is) (h.each i side l) in
    sym (list_any_at test sides i side l (sym (ap test c.side-item.is) ∙ (sym (c.in_ok-meet_in.ensures e one) ∙ c.if-branch.true))))

pub returns : goal.returns
returns c action are =
    let o = only_event c.args.task.now c.args.other in
    let sides = c.args.sides.now in
    let i = c.loop-side.side-index in
    let past : length sides ≤ i = omega (arith, c.loop-side-test.false) in
    told_by_sides c.args.task.now action c.args.other sides false are (λ none. refl)
    (λ e h. sym (subst (λ xs. meets_by e o xs ≡ false) (take_all i sides past) (c.loop-side.invariant e h.each)))
