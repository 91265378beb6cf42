-- Amounts of points that an edge may have held, from those of the others.
use Rattle.std.proofs.Common.{◌≡◌, ◌≢◌, ℕ, zero, suc, ◌+◌, ◌<◌, ◌≤◌, inl, inr, List, length, get_or, refl, sym, ◌∙◌, ap, subst, arith}
use Rattle.std.specs.Prelude.{All}
use Rattle.std.specs.BinaryHeap.{heap_items}
use Rattle.tp_net.specs.declared.slacks.Arc.{Arc}
use Rattle.tp_net.specs.Graph.{arc_at, no_arc}
use Rattle.tp_net.specs.Links.{MeetsLink, IsClosed, IsSpread, no_link}
use Rattle.tp_net.proofs.Additions.{at_most_amount}
use Rattle.std.proofs.lemmas.List.{get_or_default}
use Rattle.tp_net.specs.Slacks.{JoinsPoints}
use Rattle.tp_net.proofs.Spreads.{same_or, below_or, closed_all}
use Rattle.tp_repair_engine.specs.declared.flow.Work.{Work}
use Rattle.tp_repair_engine.specs.declared.store.Half.{Half}
use Rattle.tp_repair_engine.specs.declared.store.Store.{Store}
use Rattle.tp_repair_engine.specs.declared.store.Direction.{Direction}
use Rattle.tp_repair_engine.specs.declared.store.Direction.TheVariants.{Up, Down}
use Rattle.tp_repair_engine.specs.Flow.{link_of, links_of, sum_to, IsFlow}
use Rattle.tp_repair_engine.specs.Queue.{IsQueue}
use Rattle.tp_repair_engine.specs.Store.{arcs_of, arc_along, half_at, halves_at, lists_of, keys_of, AreHalves}
use Rattle.tp_repair_engine.specs.Work.{HasPlaces, IsOrder, IsBegun}
use Rattle.tp_repair_engine.specs.Loosened.{turned, IsBest, IsBeginning, IsFreed}
use Rattle.tp_repair_engine.proofs.Stores.{along_is, along_from, key_at, keys_len}
use Rattle.tp_repair_engine.proofs.Repairs.{halves_complete, halves_known, flow_closed, flow_least, links_at, links_len}

-- ---- the best of a list

pub record IsBestUpto (d : Direction) (m marks : ℕ → ℕ) (amount point : ℕ) (halves : List Half) (upto best : ℕ) : Type 0 where
  pub enough : (j : ℕ) → j < upto → marks (half_at halves j).far ≡ 0 → amount ≤ best + (link_of d m (arc_along d point (half_at halves j))).slack
  pub source : 0 < best → (j : ℕ) × (j < upto) × (marks (half_at halves j).far ≡ 0) × (best + (link_of d m (arc_along d point (half_at halves j))).slack ≡ amount)

-- ---- point by point

module _ (d : Direction) (s : Store) (moments marks : List ℕ) (amount p : ℕ) (w w' : Work)
    (b : IsBeginning d s moments marks amount p w)
    (within : p < length moments)
    (places : HasPlaces (length moments) w')
    (order : IsOrder w'.ranks.items w'.order.items)
    (queue : IsQueue (length moments) (λ x. get_or w'.amounts.items x 0) (λ x. get_or w'.ranks.items x 0) (heap_items w'.queue))
    (amounts_there : (x : ℕ) → x ≢ p → get_or w'.amounts.items x 0 ≡ get_or w.amounts.items x 0)
    (ranks_there : (x : ℕ) → x ≢ p → get_or w'.ranks.items x 0 ≡ get_or w.ranks.items x 0)
  where
    pub beginning_more : (get_or marks p 0 ≡ 0 → (get_or w'.amounts.items p 0 ≡ amount) × (0 < get_or w'.ranks.items p 0))
        → (0 < get_or marks p 0 → (get_or w'.ranks.items p 0 ≡ 0) × IsBest d (λ x. get_or moments x 0) (λ x. get_or marks x 0) amount p (halves_at (lists_of d s) p) (get_or w'.amounts.items p 0))
        → IsBeginning d s moments marks amount (p + 1) w'
    beginning_more free marked = record {
      places = places;
      order = order;
      queue = queue;
      settled = λ y below open_y.
          (elim (same_or y p) [
            | inl same ↦
                (let f = free (subst (λ z. get_or marks z 0 ≡ 0) same open_y) in
                subst (λ z. (get_or w'.amounts.items z 0 ≡ amount) × (0 < get_or w'.ranks.items z 0)) (sym same) f)
            | inr ne ↦
                (let f = b.settled y (omega (arith, below, ne)) open_y in
                (amounts_there y ne ∙ f.0, (let r = ranks_there y ne in let g = f.1 in omega (arith, r, g))))
          ]);
      waits = λ y below some.
          (elim (same_or y p) [
            | inl same ↦
                (let f = marked (subst (λ z. 0 < get_or marks z 0) same some) in
                subst (λ z. (get_or w'.ranks.items z 0 ≡ 0) × IsBest d (λ x. get_or moments x 0) (λ x. get_or marks x 0) amount z (halves_at (lists_of d s) z) (get_or w'.amounts.items z 0)) (sym same) f)
            | inr ne ↦
                (let f = b.waits y (omega (arith, below, ne)) some in
                (ranks_there y ne ∙ f.0, subst (λ v. IsBest d (λ x. get_or moments x 0) (λ x. get_or marks x 0) amount y (halves_at (lists_of d s) y) v) (sym (amounts_there y ne)) f.1))
          ]);
      later = λ y above.
          (let ne : y ≢ p = λ e. absurd (omega (arith, above, e)) in
          let f = b.later y (omega (arith, above)) in
          (amounts_there y ne ∙ f.0, ranks_there y ne ∙ f.1));
    }

-- ---- all points

turned_from : (d : Direction) (m : ℕ → ℕ) (e : Arc) → (link_of (turned d) m e).from ≡ (link_of d m e).to
turned_from Up m e = refl
turned_from Down m e = refl

turned_to : (d : Direction) (m : ℕ → ℕ) (e : Arc) → (link_of (turned d) m e).to ≡ (link_of d m e).from
turned_to Up m e = refl
turned_to Down m e = refl

turned_slack : (d : Direction) (m : ℕ → ℕ) (e : Arc) → (link_of (turned d) m e).slack ≡ (link_of d m e).slack
turned_slack Up m e = refl
turned_slack Down m e = refl

link_from : (d : Direction) (m : ℕ → ℕ) (n : ℕ) (e : Arc) → JoinsPoints n e → ((link_of d m e).from < n) × ((link_of d m e).to < n)
link_from Up m n e j = j
link_from Down m n e j = (j.1, j.0)

module _ (d : Direction) (s : Store) (moments marks : List ℕ) (amount : ℕ) (w : Work)
    (forward : AreHalves d s.nodes.slots (lists_of d s))
    (back : AreHalves (turned d) s.nodes.slots (lists_of (turned d) s))
    (among : All (JoinsPoints (length moments)) (arcs_of s.nodes.slots))
    (positive : 0 < amount)
    (b : IsBeginning (turned d) s moments marks amount (length moments) w)
  where
    -- a point that is marked has enough by each of its edges from points that are not
    enough_at : (k : ℕ) → k < length (arcs_of s.nodes.slots) → (z y : ℕ) → (link_of d (λ x. get_or moments x 0) (arc_at (arcs_of s.nodes.slots) k)).from ≡ z → (link_of d (λ x. get_or moments x 0) (arc_at (arcs_of s.nodes.slots) k)).to ≡ y
        → z < length moments → 0 < get_or marks z 0 → get_or marks y 0 ≡ 0
        → amount ≤ get_or w.amounts.items z 0 + (link_of d (λ x. get_or moments x 0) (arc_at (arcs_of s.nodes.slots) k)).slack
    enough_at k inside z y from_z to_y within some free =
        let m : ℕ → ℕ = λ x. get_or moments x 0 in
        let e = arc_at (arcs_of s.nodes.slots) k in
        let at_z : (link_of (turned d) m e).to ≡ z = turned_to d m e ∙ from_z in
        let at_y : (link_of (turned d) m e).from ≡ y = turned_from d m e ∙ to_y in
        elim (halves_complete (turned d) m s back k inside) [
          | inl c ↦
              (let hs = halves_at (lists_of (turned d) s) z in
              let c' : (j : ℕ) × (j < length (keys_of (turned d) s z)) × (get_or (keys_of (turned d) s z) j 0 ≡ k) = subst (λ q. (j : ℕ) × (j < length (keys_of (turned d) s q)) × (get_or (keys_of (turned d) s q) j 0 ≡ k)) at_z c in
              let j = c'.0 in
              let j_in : j < length hs = (let l = c'.1 in omega (arith, l, keys_len hs)) in
              let h = half_at hs j in
              let a = along_is (turned d) s.nodes.slots z j h (back.stand z j j_in) in
              let key : h.key ≡ k = sym (key_at hs j) ∙ c'.2 in
              let arc : arc_along (turned d) z h ≡ e = a.1 ∙ ap (arc_at (arcs_of s.nodes.slots)) key in
              let far : h.far ≡ y = sym (along_from (turned d) m z h) ∙ (ap (λ x. (link_of (turned d) m x).from) arc ∙ at_y) in
              let best = (b.waits z within some).1 in
              let n = best.enough j j_in (ap (λ q. get_or marks q 0) far ∙ free) in
              let sl : (link_of (turned d) m (arc_along (turned d) z h)).slack ≡ (link_of d m e).slack = ap (λ x. (link_of (turned d) m x).slack) arc ∙ turned_slack d m e in
              omega (arith, n, sl))
          | inr loop ↦
              (let same : z ≡ y = sym at_z ∙ (loop ∙ at_y) in
              let q : get_or marks z 0 ≡ get_or marks y 0 = ap (λ x. get_or marks x 0) same in
              absurd (omega (arith, q, some, free)))
        ]

    -- and what it has it has by one of them
    source_at : (z : ℕ) → z < length moments → 0 < get_or marks z 0 → 0 < get_or w.amounts.items z 0
        → (k : ℕ) × (k < length (arcs_of s.nodes.slots)) × ((link_of d (λ x. get_or moments x 0) (arc_at (arcs_of s.nodes.slots) k)).from ≡ z)
        × (get_or marks (link_of d (λ x. get_or moments x 0) (arc_at (arcs_of s.nodes.slots) k)).to 0 ≡ 0)
        × (get_or w.amounts.items z 0 + (link_of d (λ x. get_or moments x 0) (arc_at (arcs_of s.nodes.slots) k)).slack ≡ amount)
    source_at z within some has =
        let m : ℕ → ℕ = λ x. get_or moments x 0 in
        let hs = halves_at (lists_of (turned d) s) z in
        let best = (b.waits z within some).1 in
        let c = best.source has in
        let h = half_at hs c.0 in
        let a = along_is (turned d) s.nodes.slots z c.0 h (back.stand z c.0 c.1) in
        let e = arc_at (arcs_of s.nodes.slots) h.key in
        let k = halves_known (turned d) m s back z c.0 (let l = c.1 in omega (arith, l, keys_len hs)) in
        let key : get_or (keys_of (turned d) s z) c.0 0 ≡ h.key = key_at hs c.0 in
        let at_z : (link_of d m e).from ≡ z = sym (turned_to d m e) ∙ subst (λ q. (link_of (turned d) m (arc_at (arcs_of s.nodes.slots) q)).to ≡ z) key k.1 in
        let far : (link_of d m e).to ≡ h.far = sym (turned_from d m e) ∙ (ap (λ x. (link_of (turned d) m x).from) (sym a.1) ∙ along_from (turned d) m z h) in
        let sl : (link_of (turned d) m (arc_along (turned d) z h)).slack ≡ (link_of d m e).slack = ap (λ x. (link_of (turned d) m x).slack) a.1 ∙ turned_slack d m e in
        let total = c.3 in
        (h.key, a.0, at_z, ap (λ q. get_or marks q 0) far ∙ c.2, omega (arith, total, sl))

    begun_most : (x : ℕ) → get_or w.amounts.items x 0 ≤ amount
    begun_most x =
        elim (below_or x (length moments)) [
          | inl within ↦
              (elim (below_or 0 (get_or marks x 0)) [
                | inl some ↦
                    (elim (below_or 0 (get_or w.amounts.items x 0)) [
                      | inl has ↦ (let c = source_at x within some has in let t = c.4 in omega (arith, t))
                      | inr none ↦ omega (arith, none)
                    ])
                | inr none ↦ (let f = b.settled x within (omega (arith, none)) in let v = f.0 in omega (arith, v))
              ])
          | inr above ↦ (let f = b.later x above in let v = f.0 in omega (arith, v))
        ]

    is_settled : (x : ℕ) → 0 < get_or w.ranks.items x 0 → (x < length moments) × (get_or marks x 0 ≡ 0)
    is_settled x done =
        elim (below_or x (length moments)) [
          | inl within ↦
              (elim (below_or 0 (get_or marks x 0)) [
                | inl some ↦ (let f = b.waits x within some in let z = f.0 in absurd (omega (arith, z, done)))
                | inr none ↦ (within, omega (arith, none))
              ])
          | inr above ↦ (let f = b.later x above in let z = f.1 in absurd (omega (arith, z, done)))
        ]

    has_amount : (x : ℕ) → 0 < get_or w.ranks.items x 0 → get_or w.amounts.items x 0 ≡ amount
    has_amount x done = let h = is_settled x done in (b.settled x h.0 h.1).0

    pub beginning_begun : IsBegun (λ k. link_of d (λ x. get_or moments x 0) (arc_at (arcs_of s.nodes.slots) k)) (keys_of d s) (length moments) w
    beginning_begun = record {
      places = b.places;
      order = b.order;
      queue = b.queue;
      first = λ x y done open_y. (let a = has_amount x done in let m = begun_most y in omega (arith, a, m));
      positive = λ x done. (let a = has_amount x done in omega (arith, a, positive));
      closed = λ y j done inside.
          (let m : ℕ → ℕ = λ x. get_or moments x 0 in
          let k = halves_known d m s forward y j inside in
          let key = get_or (keys_of d s y) j 0 in
          let e = arc_at (arcs_of s.nodes.slots) key in
          let z = (link_of d m e).from in
          let z_in = (link_from d m (length moments) e (among key no_arc k.0)).0 in
          let h = is_settled y done in
          let a : get_or w.amounts.items (link_of d m e).to 0 ≡ amount = ap (λ x. get_or w.amounts.items x 0) k.1 ∙ has_amount y done in
          elim (below_or 0 (get_or marks z 0)) [
            | inl some ↦ (let n = enough_at key k.0 z y refl k.1 z_in some h.1 in omega (arith, a, n))
            | inr none ↦ (let f = b.settled z z_in (omega (arith, none)) in let v = f.0 in omega (arith, a, v))
          ]);
    }

    -- at the end
    module _ (origin : get_or marks 0 0 ≡ 0) (some : 0 < length moments) (looks : ℕ) (amounts ranks parents : List ℕ)
        (f : IsFlow (λ k. link_of d (λ x. get_or moments x 0) (arc_at (arcs_of s.nodes.slots) k)) (keys_of d s) (λ x. get_or w.amounts.items x 0) (length moments) looks amounts ranks parents)
      where
        all_closed : (k : ℕ) → k < length (arcs_of s.nodes.slots) → MeetsLink (λ x. get_or amounts x 0) (link_of d (λ x. get_or moments x 0) (arc_at (arcs_of s.nodes.slots) k))
        all_closed = flow_closed d (λ x. get_or moments x 0) (arcs_of s.nodes.slots) (keys_of d s) (λ x. get_or w.amounts.items x 0) (length moments) looks amounts ranks parents
            (halves_known d (λ x. get_or moments x 0) s forward) (halves_complete d (λ x. get_or moments x 0) s forward) f

        all_least : (h : ℕ → ℕ) → ((k : ℕ) → k < length (arcs_of s.nodes.slots) → MeetsLink h (link_of d (λ x. get_or moments x 0) (arc_at (arcs_of s.nodes.slots) k))) → ((x : ℕ) → get_or w.amounts.items x 0 ≤ h x) → (x : ℕ) → get_or amounts x 0 ≤ h x
        all_least = flow_least d (λ x. get_or moments x 0) (arcs_of s.nodes.slots) (keys_of d s) (λ x. get_or w.amounts.items x 0) (length moments) looks amounts ranks parents
            (halves_known d (λ x. get_or moments x 0) s forward) (halves_complete d (λ x. get_or moments x 0) s forward) f

        at_most : (x : ℕ) → get_or amounts x 0 ≤ amount
        at_most x = all_least (λ _. amount) (λ k inside. omega arith) begun_most x

        begins_below : (h : ℕ → ℕ) → ((k : ℕ) → k < length (arcs_of s.nodes.slots) → MeetsLink h (link_of d (λ x. get_or moments x 0) (arc_at (arcs_of s.nodes.slots) k))) → ((x : ℕ) → x < length moments → get_or marks x 0 ≡ 0 → amount ≤ h x) → (x : ℕ) → get_or w.amounts.items x 0 ≤ h x
        begins_below h closed free x =
            elim (below_or x (length moments)) [
              | inr above ↦ (let l = b.later x above in let v = l.0 in omega (arith, v))
              | inl within ↦
                  (elim (below_or 0 (get_or w.amounts.items x 0)) [
                    | inr none ↦ omega (arith, none)
                    | inl has ↦
                        (elim (below_or 0 (get_or marks x 0)) [
                          | inr none ↦ (let a = free x within (omega (arith, none)) in let m = begun_most x in omega (arith, a, m))
                          | inl marked ↦
                              (let c = source_at x within marked has in
                              let met = closed c.0 c.1 in
                              let ends = link_from d (λ y. get_or moments y 0) (length moments) (arc_at (arcs_of s.nodes.slots) c.0) (among c.0 no_arc c.1) in
                              let a = free (link_of d (λ y. get_or moments y 0) (arc_at (arcs_of s.nodes.slots) c.0)).to ends.1 c.3 in
                              let e : h (link_of d (λ y. get_or moments y 0) (arc_at (arcs_of s.nodes.slots) c.0)).from ≡ h x = ap h c.2 in
                              let t = c.4 in
                              omega (arith, met, a, e, t))
                        ])
                  ])
            ]

        pub freed_is : IsFreed d (arcs_of s.nodes.slots) (length moments) (λ x. get_or moments x 0) (λ x. get_or marks x 0) amount (λ x. get_or amounts x 0)
        freed_is = record {
          origin = (let a = f.flowing.started 0 in let v = (b.settled 0 some origin).0 in let m = at_most 0 in omega (arith, a, v, m));
          most = at_most;
          closed = all_closed;
          least = λ h closed at_origin free x. all_least h closed (begins_below h closed free) x;
        }

-- ---- both directions

pub both : (P : Direction → Type 0) → P Up → P Down → (d : Direction) → P d
both P up down Up = up
both P up down Down = down

pub sum_step : (f : ℕ → ℕ) (i : ℕ) → sum_to f (i + 1) ≡ sum_to f i + f i
sum_step f i = let e : i + 1 ≡ suc i = omega arith in ap (sum_to f) e

pub sum_part : (f : ℕ → ℕ) (i n : ℕ) → i ≤ n → sum_to f i ≤ sum_to f n
sum_part f i zero h = let e : i ≡ 0 = omega (arith, h) in let a : sum_to f i ≡ sum_to f 0 = ap (sum_to f) e in omega (arith, a)
sum_part f i (suc n) h =
    elim (same_or i (suc n)) [
      | inl same ↦ (let a : sum_to f i ≡ sum_to f (suc n) = ap (sum_to f) same in omega (arith, a))
      | inr ne ↦ (let r = sum_part f i n (omega (arith, h, ne)) in omega (arith, r))
    ]

-- the list of a point is no longer than all together
pub list_few : (d : Direction) (s : Store) (n y : ℕ) → y < n → length (halves_at (lists_of d s) y) ≤ sum_to (λ x. length (keys_of d s x)) n
list_few d s n y lt =
    let f : ℕ → ℕ = λ x. length (keys_of d s x) in
    let a = sum_step f y in
    let b = sum_part f (y + 1) n (omega (arith, lt)) in
    let k = keys_len (halves_at (lists_of d s) y) in
    omega (arith, a, b, k)

-- ---- a flow from one point

pub spread_follows : (d : Direction) (arcs : List Arc) (m : ℕ → ℕ) (seed amount : ℕ) (amounts ranks parents : List ℕ) → IsSpread (links_of d m arcs) seed amount amounts ranks parents
    → (k : ℕ) → k < length arcs → MeetsLink (λ x. get_or amounts x 0) (link_of d m (arc_at arcs k))
spread_follows d arcs m seed amount amounts ranks parents s k within =
    subst (λ l. MeetsLink (λ x. get_or amounts x 0) l) (links_at d m arcs k within) (closed_all (links_of d m arcs) seed amount amounts ranks parents s k no_link (omega (arith, within, links_len d m arcs)))

pub all_links : (d : Direction) (arcs : List Arc) (m h : ℕ → ℕ) → ((k : ℕ) → k < length arcs → MeetsLink h (link_of d m (arc_at arcs k))) → IsClosed h (links_of d m arcs)
all_links d arcs m h each k e within =
    let inside : k < length arcs = omega (arith, within, links_len d m arcs) in
    subst (λ l. MeetsLink h l) (get_or_default (links_of d m arcs) k no_link e within) (subst (λ l. MeetsLink h l) (sym (links_at d m arcs k inside)) (each k inside))

pub each_link : (d : Direction) (arcs : List Arc) (m h : ℕ → ℕ) → IsClosed h (links_of d m arcs) → (k : ℕ) → k < length arcs → MeetsLink h (link_of d m (arc_at arcs k))
each_link d arcs m h closed k within = subst (λ l. MeetsLink h l) (links_at d m arcs k within) (closed k no_link (omega (arith, within, links_len d m arcs)))

pub spread_freed : (d : Direction) (arcs : List Arc) (points : ℕ) (m marks : ℕ → ℕ) (amount : ℕ) (amounts ranks parents : List ℕ) → IsSpread (links_of d m arcs) 0 amount amounts ranks parents
    → IsFreed d arcs points m marks amount (λ x. get_or amounts x 0)
spread_freed d arcs points m marks amount amounts ranks parents s = record {
  origin = s.spreading.seeded;
  most = at_most_amount (links_of d m arcs) 0 amount amounts ranks parents s;
  closed = spread_follows d arcs m 0 amount amounts ranks parents s;
  least = λ h closed at_origin free x. s.spreading.least h (all_links d arcs m h closed) at_origin x;
}
