use Rattle.std.proofs.Common.{ℕ, length, get_or, arith}
use Rattle.std.specs.BinaryHeap.{heap_items}
use Rattle.tp_repair_engine.proofs.Queues.{taken_within, taken_next, taken_but, taken_passed}
use Rattle.tp_repair_engine.proofs.queue.next_point.Goals as goal
use Rattle.tp_repair_engine.proofs.queue.next_point.Goals.{else-ranks-point-eq0-via-then-ranks-point-eq0+else-amount-gt0, else-ranks-point-eq0-via-else-ranks-point-eq0}

pub returns-then-amount-gt0 : goal.returns-then-amount-gt0
returns-then-amount-gt0 c =
    let n = length c.args.amounts.now in
    let g : ℕ → ℕ = λ x. get_or c.args.amounts.now x 0 in
    let r : ℕ → ℕ = λ x. get_or c.args.ranks.now x 0 in
    let old = heap_items c.loop-amount.queue in
    let new = heap_items c.pop.new.self in
    let q = c.loop-amount.invariant in
    let same = c.in-Some.ensures.permutation in
    let keeps = c.in-Some.ensures.heap_order in
    record {
      next = (
        taken_within n g r old new c.in-Some.amount c.in-Some.point q same keeps,
        taken_next n g r old new c.in-Some.amount c.in-Some.point q same keeps c.if-ranks-point-eq0.true c.if-amount-gt0.true,
        taken_but n g r old new c.in-Some.amount c.in-Some.point q same keeps,
      );
    }

pub loop-amount-preserved : goal.loop-amount-preserved
loop-amount-preserved c =
    let n = length c.args.amounts.now in
    let g : ℕ → ℕ = λ x. get_or c.args.amounts.now x 0 in
    let r : ℕ → ℕ = λ x. get_or c.args.ranks.now x 0 in
    let old = heap_items c.loop-amount.queue in
    let new = heap_items c.pop.new.self in
    let q = c.loop-amount.invariant in
    let same = c.in-Some.ensures.permutation in
    let keeps = c.in-Some.ensures.heap_order in
    taken_passed n g r old new c.in-Some.amount c.in-Some.point q same keeps
    (λ unsettled some. elim c.else-ranks-point-eq0.branch [
      | else-ranks-point-eq0-via-then-ranks-point-eq0+else-amount-gt0 w ↦ (let h = w.if-amount-gt0.false in absurd (omega (arith, h, some)))
      | else-ranks-point-eq0-via-else-ranks-point-eq0 w ↦ absurd (w.if-ranks-point-eq0.false unsettled)
    ])
