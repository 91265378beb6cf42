use Rattle.std.proofs.Common.{◌≡◌, ◌+◌, ◌++◌, true, false, [], ◌∷◌, drop, Vec, Global, sym, ap, ◌∙◌}
use Rattle.tp_task.specs.Event.{has}
use Rattle.tp_task.specs.Valid.{Placed}
use Rattle.tp_deorder.specs.Inequalities.{touches, touching}
use Rattle.tp_deorder.proofs.OnInvariants.{touches_is, left}
use Rattle.tp_deorder.proofs.OnWalks.{next_put}
use Rattle.tp_deorder.proofs.invariants.touching.Goals as goal
use Rattle.tp_deorder.proofs.invariants.touching.Goals.{then-touches+in_ok-push, else-touches}

pub loop-event-preserved : goal.loop-event-preserved
loop-event-preserved c =
    let e : Placed = c.event-item.result in
    let first = c.args.at.now.first in
    let es = c.args.events.now in
    let i = c.loop-event.event-index in
    let inv = c.args.condition.now in
    let old = c.loop-event.found.items in
    let told : c.touches.result ≡ touches first inv e =
    c.touches.ensures
    ∙ touches_is first inv c.in_ok-atoms.atoms c.in_ok-fluents.fluents e (λ x. c.in_ok-atoms.ensures x ∙ ap (λ xs. has xs x) (c.deref.ensures.value ∙ c.in_ok-mentioned.ensures))
    (λ x. c.in_ok-fluents.ensures x ∙ ap (λ xs. has xs x) (c.deref-2.ensures.value ∙ c.in_ok-mentioned-2.ensures)) in
    elim c.if-touches.branch [
      | then-touches+in_ok-push w ↦
          next_put old c.if-touches.found.items e _ _ _ (ap (λ (v : Vec Placed Global). v.items) w.found-is ∙ (w.in_ok-push.ensures.items ∙ ap (λ (x : Placed). old ++ (x ∷ [])) w.placed.ensures))
          (left first inv es i e c.loop-event-test.true c.event-item.is true (sym told ∙ w.if-touches.true)) c.loop-event.invariant
      | else-touches w ↦ ap (λ (v : Vec Placed Global). v.items ++ touching first inv (drop (i + 1) es)) w.found-is
          ∙ (ap (λ ys. old ++ ys) (sym (left first inv es i e c.loop-event-test.true c.event-item.is false (sym told ∙ w.if-touches.false))) ∙ c.loop-event.invariant)
    ]
