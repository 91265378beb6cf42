use Rattle.std.proofs.Common.{◌≡◌, ℕ, ◌+◌, ◌-◌, ◌<◌, ◌≤◌, List, length, arith, get_or, set, subst, ap, sym, refl, ◌∙◌, length-set, ◌≢◌}
use Rattle.tp_repair_engine.specs.Queue.{IsQueue}
use Rattle.std.specs.BinaryHeap.{heap_items}
use Rattle.tp_net.specs.declared.spread.Link.{Link}
use Rattle.tp_net.proofs.Spreads.{read_written, read_other}
use Rattle.tp_repair_engine.specs.declared.store.Half.{Half}
use Rattle.tp_repair_engine.specs.Flow.{Flowing, AreListed, link_of}
use Rattle.tp_repair_engine.specs.Potential.{link_in}
use Rattle.tp_repair_engine.specs.Store.{arc_along, keys_in, keys_of, lists_of, half_at, halves_at, no_half}
use Rattle.tp_repair_engine.proofs.Repairs.{halves_known}
use Rattle.tp_repair_engine.proofs.Stores.{along_is, key_at, keys_len, along_from, along_to}
use Rattle.tp_repair_engine.proofs.Flows.{IsFlowing, flowing_kept, flowing_raised}
use Rattle.tp_repair_engine.proofs.Queues.{queue_offered}
use Rattle.tp_repair_engine.proofs.flow.relax.Goals as goal
use Rattle.tp_repair_engine.proofs.flow.relax.Goals.{then-ranks-half-eq0+then-amounts-half+in_ok-push, else-ranks-half-eq0, else-ranks-half-eq0-via-then-ranks-half-eq0+else-amounts-half, else-ranks-half-eq0-via-else-ranks-half-eq0}

pub loop-half-preserved : goal.loop-half-preserved
loop-half-preserved c =
    let d = c.args.direction in
    let m : ℕ → ℕ = λ x. get_or c.args.potential.now.moments.now x 0 in
    let list = c.list-list.result.now in
    let i = c.loop-half.half-index in
    let half : Half = half_at list i in
    let point = c.args.point in
    let amounts = c.loop-half.amounts in
    let parents = c.loop-half.parents in
    let ranks = c.args.ranks.now in
    let s = c.loop-half.invariant in
    let far = half.far in
    let v = c.saturating_sub-amount.result in
    let inside : i < length list = c.loop-half-test.true in
    let counted : c.slack_along-slack.new.looks ≡ i + 1 = omega (arith, c.slack_along-slack.ensures.counted, s.looks_is) in
    let slack = (link_of d m (arc_along d point half)).slack in
    let value : v ≡ get_or amounts point 0 - slack = c.saturating_sub-amount.ensures ∙ ap (λ w. get_or amounts point 0 - w) c.slack_along-slack.ensures.slack in
    let far_moments : far < length c.args.potential.now.moments.now = (c.list-list.ensures.along i no_half inside).far in
    let kept = λ (met : get_or amounts point 0 ≤ get_or amounts far 0 + slack) (link : ℕ → Link) (match : (j : ℕ) → j < length list → link (half_at list j).key ≡ link_of d m (arc_along d point (half_at list j))).
    (let at : link (get_or (keys_in list) i 0) ≡ link_of d m (arc_along d point half) = ap link (key_at list i) ∙ match i inside in
    flowing_kept link (keys_in list) point i c.args.amounts.now ranks c.args.parents.now amounts parents amounts parents (s.flowing link match) refl refl
    (ap (λ (l : Link). l.to) at ∙ along_to d m point half)
    (let f : get_or amounts (link (get_or (keys_in list) i 0)).from 0 ≡ get_or amounts far 0 = ap (λ z. get_or amounts z 0) (ap (λ (l : Link). l.from) at ∙ along_from d m point half) in
    let e : (link (get_or (keys_in list) i 0)).slack ≡ slack = ap (λ (l : Link). l.slack) at in omega (arith, met, f, e)))
    in
    elim c.if-ranks-half-eq0.branch [
      | then-ranks-half-eq0+then-amounts-half+in_ok-push w ↦
          let more : get_or amounts far 0 < v = w.if-amounts-half.true in
          let unsettled : get_or ranks far 0 ≡ 0 = w.if-ranks-half-eq0.true in
          let far_within : far < length amounts = omega (arith, far_moments, c.requires.amounts, c.loop-half.auto.amounts) in
          let ea : c.if-ranks-half-eq0.amounts ≡ set amounts far v = w.amounts-is in
          let ep : c.if-ranks-half-eq0.parents ≡ set parents far half.key = w.parents-is in
          let ne_from : (y : ℕ) → 0 < get_or ranks y 0 → y ≢ far = λ y done e. (let at_y : get_or ranks y 0 ≡ get_or ranks far 0 = ap (λ z. get_or ranks z 0) e in absurd (omega (arith, at_y, unsettled, done))) in
          record {
            looks_is = counted;
            parents_len = (let l : length (set parents far half.key) ≡ length c.args.parents.now = simp length-set s.parents_len in ap (λ (xs : List ℕ). length xs) ep ∙ l);
            last = λ x done.
                (let a : get_or c.if-ranks-half-eq0.amounts point 0 ≡ get_or amounts point 0 = read_other amounts c.if-ranks-half-eq0.amounts far v point ea (ne_from point c.requires.settled) in
                let b : get_or c.if-ranks-half-eq0.amounts x 0 ≡ get_or amounts x 0 = read_other amounts c.if-ranks-half-eq0.amounts far v x ea (ne_from x done) in
                let l = s.last x done in
                omega (arith, a, b, l));
            flowing = λ link match.
                (let at : link (get_or (keys_in list) i 0) ≡ link_of d m (arc_along d point half) = ap link (key_at list i) ∙ match i inside in
                flowing_raised link (keys_in list) point i v far c.args.amounts.now ranks c.args.parents.now amounts parents c.if-ranks-half-eq0.amounts c.if-ranks-half-eq0.parents
                (s.flowing link match) (omega (arith, inside, keys_len list)) far_within (omega (arith, s.parents_len, c.requires.parents, c.requires.amounts, c.loop-half.auto.amounts)) c.requires.settled
                (ap (λ (l : Link). l.from) at ∙ along_from d m point half) (ap (λ (l : Link). l.to) at ∙ along_to d m point half) unsettled
                (value ∙ ap (λ (l : Link). get_or amounts point 0 - l.slack) (sym at)) more ea
                (ep ∙ ap (λ k. set parents far k) (sym (key_at list i))));
            queue = subst (λ q. IsQueue (length c.args.potential.now.moments.now) (λ x. get_or c.if-ranks-half-eq0.amounts x 0) (λ x. get_or ranks x 0) (heap_items q)) (sym w.queue-is)
                (subst (λ xs. IsQueue (length c.args.potential.now.moments.now) (λ x. get_or xs x 0) (λ x. get_or ranks x 0) (heap_items w.push.new.self)) (sym ea)
                (queue_offered far v (length c.args.potential.now.moments.now) (λ x. get_or amounts x 0) (λ x. get_or (set amounts far v) x 0) (λ x. get_or ranks x 0) (heap_items c.loop-half.queue) (heap_items w.push.new.self)
                s.queue far_moments (omega (arith, more)) (read_written amounts (set amounts far v) far v far refl far_within refl) (λ x ne. read_other amounts (set amounts far v) far v x refl ne)
                w.in_ok-push.ensures.permutation w.in_ok-push.ensures.heap_order));
          }
      | else-ranks-half-eq0 w ↦
          let ea : c.if-ranks-half-eq0.amounts ≡ amounts = w.amounts-is in
          let ep : c.if-ranks-half-eq0.parents ≡ parents = w.parents-is in
          let met : get_or amounts point 0 ≤ get_or amounts far 0 + slack =
          (elim w.else-ranks-half-eq0.branch [
            | else-ranks-half-eq0-via-then-ranks-half-eq0+else-amounts-half w' ↦ (let b : v ≤ get_or amounts far 0 = w'.if-amounts-half.false in omega (arith, b, value))
            | else-ranks-half-eq0-via-else-ranks-half-eq0 w' ↦ (let h : get_or ranks far 0 ≢ 0 = w'.if-ranks-half-eq0.false in let l = s.last far (omega (arith, h)) in omega (arith, l))
          ]) in
          record {
            looks_is = counted;
            parents_len = ap (λ (xs : List ℕ). length xs) ep ∙ s.parents_len;
            last = subst (λ (xs : List ℕ). (x : ℕ) → 0 < get_or ranks x 0 → get_or xs point 0 ≤ get_or xs x 0) (sym ea) s.last;
            flowing = λ link match.
                subst (λ xs. IsFlowing link (keys_in list) point (i + 1) c.args.amounts.now ranks c.args.parents.now xs c.if-ranks-half-eq0.parents) (sym ea)
                (subst (λ xs. IsFlowing link (keys_in list) point (i + 1) c.args.amounts.now ranks c.args.parents.now amounts xs) (sym ep) (kept met link match));
            queue = subst (λ q. IsQueue (length c.args.potential.now.moments.now) (λ x. get_or c.if-ranks-half-eq0.amounts x 0) (λ x. get_or ranks x 0) (heap_items q)) (sym w.queue-is)
                (subst (λ xs. IsQueue (length c.args.potential.now.moments.now) (λ x. get_or xs x 0) (λ x. get_or ranks x 0) (heap_items c.loop-half.queue)) (sym ea) s.queue);
          }
    ]

pub returns-clause-looks : goal.returns-clause-looks
returns-clause-looks c =
    let hs = halves_at (lists_of c.args.direction c.args.potential.now.store.now) c.args.point in
    let same : length c.list-list.result.now ≡ length hs = ap (λ (xs : List Half). length xs) c.list-list.ensures.list in
    let all : c.loop-half.half-index ≡ length c.list-list.result.now = omega arith in
    omega (arith, same, all, keys_len hs, c.loop-half.invariant.looks_is)

pub returns-clause-flowing : goal.returns-clause-flowing
returns-clause-flowing c =
    let p = c.args.potential.now in
    let d = c.args.direction in
    let point = c.args.point in
    let list = c.list-list.result.now in
    let hs = halves_at (lists_of d p.store.now) point in
    let link : ℕ → Link = link_in d p.store.now p.moments.now in
    let m : ℕ → ℕ = λ x. get_or p.moments.now x 0 in
    let row : list ≡ hs = c.list-list.ensures.list in
    let all : c.loop-half.half-index ≡ length list = omega arith in
    let listed : AreListed link (keys_of d p.store.now) = λ y j inside. (halves_known d m p.store.now (p.met.halves d) y j inside).1 in
    let match : (j : ℕ) → j < length list → link (half_at list j).key ≡ link_of d m (arc_along d point (half_at list j)) =
    subst (λ (xs : List Half). (j : ℕ) → j < length xs → link (half_at xs j).key ≡ link_of d m (arc_along d point (half_at xs j))) (sym row)
    (λ j inside. ap (λ e. link_of d m e) (sym (along_is d p.store.now.nodes.slots point j (half_at hs j) ((p.met.halves d).stand point j inside)).1)) in
    let here : keys_of d p.store.now point ≡ keys_in list = ap (λ xs. keys_in xs) (sym row) in
    let len : length list ≡ length (keys_of d p.store.now point) = ap (λ (xs : List Half). length xs) row ∙ sym (keys_len hs) in
    λ start before.
    subst (λ k. Flowing link (keys_of d p.store.now) start point k (λ x. get_or c.loop-half.amounts x 0) (λ x. get_or c.args.ranks.now x 0) (λ x. get_or c.loop-half.parents x 0)) len
    ((subst (λ n. IsFlowing link (keys_in list) point n c.args.amounts.now c.args.ranks.now c.args.parents.now c.loop-half.amounts c.loop-half.parents) all (c.loop-half.invariant.flowing link match)).state (keys_of d p.store.now) start here listed before)
