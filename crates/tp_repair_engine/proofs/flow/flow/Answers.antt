use Rattle.std.proofs.Common.{◌≡◌, ℕ, ◌+◌, ◌<◌, ◌^◌, length, get_or, set, subst, sym, arith, rules, [], ◌∷◌, take, drop, ◌++◌}
use Rattle.std.specs.Prelude.{count_by, nat_eq}
use Rattle.std.specs.BinaryHeap.{heap_items}
use Rattle.std.proofs.lemmas.Grind.{common_steps}
use Rattle.tp_net.specs.declared.spread.Link.{Link}
use Rattle.tp_net.proofs.Spreads.{written_back}
use Rattle.tp_repair_engine.specs.Flow.{Flowing, looks_at}
use Rattle.tp_repair_engine.specs.Potential.{link_in}
use Rattle.tp_repair_engine.specs.Store.{keys_of}
use Rattle.tp_repair_engine.specs.Queue.{IsQueue}
use Rattle.tp_repair_engine.proofs.Flows.{IsOnward, onward_begins, onward_state, onward_more, looks_more, looks_within, order_more, flow_ended}
use Rattle.tp_repair_engine.proofs.flow.flow.Goals as goal

pub loop-point-init : goal.loop-point-init
loop-point-init c =
    let link : ℕ → Link = link_in c.args.direction c.args.potential.now.store.now c.args.potential.now.moments.now in
    let b = c.requires.begun in
    let w = c.args.work.now in
    let keys = keys_of c.args.direction c.args.potential.now.store.now in
    let n = length c.args.potential.now.moments.now in
    let base = looks_at keys (λ x. get_or w.ranks.items x 0) n in
    let total = length w.order.items + count_by (λ r. nat_eq r 0) w.ranks.items in
    record {
      onward = subst (λ k. IsOnward link keys (λ x. get_or w.amounts.items x 0) n total (length w.order.items) k w.amounts.items w.ranks.items w.parents.items) (let e : base ≡ base + 0 = omega arith in e)
          (onward_begins link keys n w b);
      order = b.order;
      queue = b.queue;
    }

pub overflow_add-looks : goal.overflow_add-looks
overflow_add-looks c =
    let link : ℕ → Link = link_in c.args.direction c.args.potential.now.store.now c.args.potential.now.moments.now in
    let w = c.loop-point.work in
    let point = c.in-Some.point in
    let n = length c.args.potential.now.moments.now in
    let lists = keys_of c.args.direction c.args.potential.now.store.now in
    let s = c.loop-point.invariant.onward in
    let base = looks_at lists (λ x. get_or c.args.work.now.ranks.items x 0) n in
    let total = length c.args.work.now.order.items + count_by (λ r. nat_eq r 0) c.args.work.now.ranks.items in
    let next = simp (c.deref.ensures.value, c.deref-in-loop-point.ensures.value) at c.in-Some.ensures.next in
    let more = looks_more link lists (λ x. get_or c.args.work.now.amounts.items x 0) n total (length w.order.items) (base + c.loop-point.looks) point w.amounts.items w.ranks.items w.parents.items s next.0 next.1 in
    let most = looks_within lists (λ x. get_or (set w.ranks.items point (length w.order.items + 1)) x 0) n in
    let e : c.in_ok-looks.field-0 ≡ length (lists point) = c.in_ok-looks.ensures.looks in
    let h : c.loop-point.looks + c.in_ok-looks.field-0 < 2 ^ 64 = omega (arith, more, most, e, c.args.potential.now.met.few c.args.direction) in
    search rules

pub loop-point-preserved : goal.loop-point-preserved
loop-point-preserved c =
    let link : ℕ → Link = link_in c.args.direction c.args.potential.now.store.now c.args.potential.now.moments.now in
    let w = c.loop-point.work in
    let amounts = w.amounts.items in
    let ranks = w.ranks.items in
    let parents = w.parents.items in
    let order = w.order.items in
    let order' = c.push.new.self.items in
    let point = c.in-Some.point in
    let rank = c.len.result in
    let n = length c.args.potential.now.moments.now in
    let lists = keys_of c.args.direction c.args.potential.now.store.now in
    let start : ℕ → ℕ = λ x. get_or c.args.work.now.amounts.items x 0 in
    let s = c.loop-point.invariant.onward in
    let base = looks_at lists (λ x. get_or c.args.work.now.ranks.items x 0) n in
    let total = length c.args.work.now.order.items + count_by (λ r. nat_eq r 0) c.args.work.now.ranks.items in
    let next = simp (c.deref.ensures.value, c.deref-in-loop-point.ensures.value) at c.in-Some.ensures.next in
    let more : order' ≡ order ++ point ∷ [] = c.in_ok-push.ensures.items in
    let len_order : length order' ≡ length order + 1 = grind (arith, common_steps, more) in
    let rank_is : rank ≡ length order + 1 = omega (arith, c.len.ensures, c.push.new.self.ok.0, len_order) in
    let state = onward_state link lists start n total (length order) (base + c.loop-point.looks) point amounts ranks parents s next.0 next.1 in
    let state' = subst (λ k. Flowing link lists start point 0 (λ x. get_or amounts x 0) (λ x. get_or (set ranks point k) x 0) (λ x. get_or parents x 0)) (sym rank_is) state in
    let after0 = (simp (c.deref_mut.ensures.value, c.deref_mut-in-Some.ensures.value, c.deref-in-Some.ensures.value) at (c.in_ok-looks.ensures.flowing start)) state' in
    let after = subst (λ k. Flowing link lists start point (length (lists point)) (λ x. get_or c.relax.new.amounts x 0) (λ x. get_or (set ranks point k) x 0) (λ x. get_or c.relax.new.parents x 0)) rank_is after0 in
    let len_a : length c.relax.new.amounts ≡ length amounts = omega arith in
    let len_p : length c.relax.new.parents ≡ length parents = omega arith in
    let on = onward_more link lists start n total (length order) (base + c.loop-point.looks) point amounts ranks parents s next.0 next.1 c.relax.new.amounts c.relax.new.parents len_a len_p after in
    let within : point < length ranks = omega (arith, next.0, s.amounts_len, s.ranks_len) in
    let on1 = subst (λ k. IsOnward link lists start n total k ((base + c.loop-point.looks) + length (lists point)) c.relax.new.amounts (set ranks point k) c.relax.new.parents) (sym rank_is) on in
    let on2 = subst (λ k. IsOnward link lists start n total k ((base + c.loop-point.looks) + length (lists point)) c.relax.new.amounts (set ranks point rank) c.relax.new.parents) (let e : rank ≡ length order' = omega (arith, rank_is, len_order) in e) on1 in
    let on3 = subst (λ k. IsOnward link lists start n total (length order') ((base + c.loop-point.looks) + k) c.relax.new.amounts (set ranks point rank) c.relax.new.parents) (sym c.in_ok-looks.ensures.looks) on2 in
    let regrouped : (base + c.loop-point.looks) + c.in_ok-looks.field-0 ≡ base + (c.loop-point.looks + c.in_ok-looks.field-0) = omega arith in
    let on4 = subst (λ k. IsOnward link lists start n total (length order') k c.relax.new.amounts (set ranks point rank) c.relax.new.parents) regrouped on3 in
    let queue = simp c.deref-in-Some.ensures.value at c.in_ok-looks.ensures.queue in
    let wa = written_back amounts c.relax.new.amounts w.amounts.len w.amounts.ok.0 len_a in
    let wp = written_back parents c.relax.new.parents w.parents.len w.parents.ok.0 len_p in
    record {
      onward = subst (λ xs. IsOnward link lists start n total (length order') (base + (c.loop-point.looks + c.in_ok-looks.field-0)) xs (set ranks point rank) (take w.parents.len (c.relax.new.parents ++ drop (length c.relax.new.parents) parents))) (sym wa)
          (subst (λ xs. IsOnward link lists start n total (length order') (base + (c.loop-point.looks + c.in_ok-looks.field-0)) c.relax.new.amounts (set ranks point rank) xs) (sym wp) on4);
      order = order_more ranks order order' point rank c.loop-point.invariant.order more rank_is within next.1.unsettled;
      queue = subst (λ xs. IsQueue n (λ x. get_or xs x 0) (λ x. get_or (set ranks point rank) x 0) (heap_items c.relax.new.queue)) (sym wa) queue;
    }

pub returns-clause-flow : goal.returns-clause-flow
returns-clause-flow c =
    let link : ℕ → Link = link_in c.args.direction c.args.potential.now.store.now c.args.potential.now.moments.now in
    let w = c.loop-point.work in
    let none = simp (c.deref.ensures.value, c.deref-in-loop-point.ensures.value) at c.in_default.ensures.next in
    let base = looks_at (keys_of c.args.direction c.args.potential.now.store.now) (λ x. get_or c.args.work.now.ranks.items x 0) (length c.args.potential.now.moments.now) in
    let total = length c.args.work.now.order.items + count_by (λ r. nat_eq r 0) c.args.work.now.ranks.items in
    flow_ended link (keys_of c.args.direction c.args.potential.now.store.now) (λ x. get_or c.args.work.now.amounts.items x 0) (length c.args.potential.now.moments.now) total (length w.order.items) (base + c.loop-point.looks) w.amounts.items w.ranks.items w.parents.items
    c.loop-point.invariant.onward none.0
