use Rattle.std.proofs.Common.{◌≡◌, ◌<◌, ℕ, List, length, get_or, refl, sym, ap, subst, ◌∙◌, arith}
use Rattle.tp_net.proofs.Spreads.{read_written, read_other}
use Rattle.tp_repair_engine.specs.Store.{lists_of, halves_at}
use Rattle.tp_repair_engine.specs.Work.{IsOrder}
use Rattle.tp_repair_engine.specs.Loosened.{IsBest}
use Rattle.tp_repair_engine.proofs.Frees.{beginning_more}
use Rattle.tp_repair_engine.proofs.loosen.begin_at.Goals as goal

pub returns-clause-beginning : goal.returns-clause-beginning
returns-clause-beginning c =
    let s = c.args.marked.now.potential.store.now in
    let moments = c.args.marked.now.potential.moments.now in
    let n = length moments in
    let p = c.args.point in
    let d = c.args.direction in
    let b = c.requires.beginning in
    let w = c.args.work.now in
    let e = c.in_ok-wait_point.ensures in
    let w' = c.wait_point.new.work in
    let v = c.best_of-best.result.0 in
    let within : p < length w.amounts.items = (let a = b.places.amounts in omega (arith, c.requires.point, a)) in
    let here : get_or w'.amounts.items p 0 ≡ v = read_written w.amounts.items w'.amounts.items p v p e.amounts within refl in
    let rank : get_or w'.ranks.items p 0 ≡ 0 = ap (λ (xs : List ℕ). get_or xs p 0) e.ranks ∙ (b.later p (omega arith)).1 in
    beginning_more d s moments c.args.marked.now.marks.now c.args.marked.now.amount p w w' b c.requires.point e.places
    (subst (λ (xs : List ℕ). IsOrder xs w'.order.items) (sym e.ranks) (subst (λ (xs : List ℕ). IsOrder w.ranks.items xs) (sym e.order) b.order)) e.queue
    (λ x ne. read_other w.amounts.items w'.amounts.items p v x e.amounts ne)
    (λ x ne. ap (λ (xs : List ℕ). get_or xs x 0) e.ranks)
    (λ free. absurd (c.if-marked-point-eq0.false free))
    (λ some. (rank, subst (λ k. IsBest d (λ x. get_or moments x 0) (λ x. get_or c.args.marked.now.marks.now x 0) c.args.marked.now.amount p (halves_at (lists_of d s) p) k) (sym here) c.best_of-best.ensures.best))
