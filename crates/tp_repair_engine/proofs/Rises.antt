-- Least moments that rise from several points, and floors that rise.
use Rattle.std.proofs.Common.{◌≡◌, ◌≢◌, ℕ, suc, ◌+◌, ◌-◌, ◌<◌, ◌≤◌, inl, inr, List, length, get_or, refl, sym, ◌∙◌, ap, subst, arith, Bool, not, true, false}
use Rattle.std.proofs.Math.ListN.{get_or-eq_default}
use Rattle.std.specs.Prelude.{All, Option, is_some, Some, None, slice_index_or, ℤ, pos, negsuc, ◌+ℤ◌, ◌-ℤ◌, ◌≤ℤ◌}
use Rattle.std.proofs.lemmas.Int.{ints}
use Rattle.std.proofs.lemmas.List.{get_or_default}
use Rattle.tp_bounds.specs.declared.Edge.{Edge}
use Rattle.tp_bounds.specs.declared.Edge.TheVariants.{Own, New, PastHigh, PastLow, Now, End}
use Rattle.tp_net.specs.declared.slacks.Arc.{Arc}
use Rattle.tp_net.specs.Links.{MeetsLink}
use Rattle.tp_net.specs.Graph.{MeetsArc, IsSolution, arc_at, no_arc, moment}
use Rattle.tp_net.specs.Moments.{AreExact, HoldsLeast}
use Rattle.tp_net.specs.Arcs.{raised_by, floor_at, AllWait}
use Rattle.tp_net.proofs.Additions.{meets_same}
use Rattle.tp_net.proofs.Potentials.{nat_of, nat_of_diff}
use Rattle.tp_net.proofs.Spreads.{below_or}
use Rattle.tp_repair_engine.specs.declared.store.Node.{Node}
use Rattle.tp_repair_engine.specs.declared.store.Direction.TheVariants.{Up}
use Rattle.tp_repair_engine.specs.Flow.{link_of}
use Rattle.tp_repair_engine.specs.Store.{arcs_of}
use Rattle.tp_repair_engine.specs.Engine.{AreMapped}
use Rattle.tp_repair_engine.specs.Slots.{raised_node, IsOpenFloor}
use Rattle.tp_repair_engine.specs.declared.flow.Work.{Work}
use Rattle.tp_repair_engine.specs.Work.{IsReady}
use Rattle.tp_repair_engine.specs.Asked.{AsksUpto, AsksFloor, AreOffered, IsRaisedTo, IsFromEvent}
use Rattle.tp_net.proofs.Spreads.{same_or}
use Rattle.tp_repair_engine.proofs.Nodes.{solution_by_key, key_met}
use Rattle.tp_repair_engine.proofs.Repairs.{slack_at_is}

pub none_is : (o : Option ℕ) (b : Bool) → is_some o ≡ not b → b ≡ true → o ≡ None
none_is None b h t = refl
none_is (Some x) true h t = absurd (let f : ⊥ = cc in f)
none_is (Some x) false h t = absurd (let f : ⊥ = cc in f)

pub some_is : (o : Option ℕ) (b : Bool) → is_some o ≡ not b → b ≡ false → o ≢ None
some_is None true h t is = let f : ⊥ = cc in f
some_is None false h t is = let f : ⊥ = cc in f
some_is (Some x) b h t is = let f : ⊥ = cc in f

nat_of_most : (z : ℤ) (n : ℕ) → pos n ≤ℤ z → n ≤ nat_of z
nat_of_most (pos k) n h = omega (arith, ints, h)
nat_of_most (negsuc k) n h = absurd (omega (arith, ints, h))

-- amounts that meet the links, and are the least ones that do and are not below the start
module _ (arcs : List Arc) (low : List ℕ) (start g : ℕ → ℕ)
    (holds : HoldsLeast arcs low)
    (closed : (k : ℕ) → k < length arcs → MeetsLink g (link_of Up (λ x. get_or low x 0) (arc_at arcs k)))
    (least : (h : ℕ → ℕ) → ((k : ℕ) → k < length arcs → MeetsLink h (link_of Up (λ x. get_or low x 0) (arc_at arcs k))) → ((x : ℕ) → start x ≤ h x) → (x : ℕ) → g x ≤ h x)
  where
    m : ℕ → ℕ
    m x = get_or low x 0

    slack_is : (k : ℕ) → k < length arcs → pos (link_of Up (λ x. get_or low x 0) (arc_at arcs k)).slack ≡ (pos (get_or low (arc_at arcs k).from 0) +ℤ (arc_at arcs k).weight) -ℤ pos (get_or low (arc_at arcs k).to 0)
    slack_is k within = let met : MeetsArc (moment low) (arc_at arcs k) = holds.least.solution.1 k no_arc within in
        slack_at_is ((pos (get_or low (arc_at arcs k).from 0) +ℤ (arc_at arcs k).weight) -ℤ pos (get_or low (arc_at arcs k).to 0)) (omega (arith, ints, met))

    pub risen_meets : All (MeetsArc (λ x. pos (get_or low x 0 + g x))) arcs
    risen_meets k d within =
        subst (λ e. MeetsArc (λ x. pos (get_or low x 0 + g x)) e) (get_or_default arcs k no_arc d within)
        (let s = slack_is k within in
        let c : g (arc_at arcs k).to ≤ g (arc_at arcs k).from + (link_of Up (λ x. get_or low x 0) (arc_at arcs k)).slack = closed k within in
        omega (arith, ints, s, c))

    above : (t : ℕ → ℤ) → IsSolution arcs t → (x : ℕ) → x < length low → pos (get_or low x 0 + nat_of (t x -ℤ pos (get_or low x 0))) ≡ t x
    above t s x within = nat_of_diff (t x) (get_or low x 0) (holds.least.least t s x within)

    above_closed : (t : ℕ → ℤ) → IsSolution arcs t → (k : ℕ) → k < length arcs → MeetsLink (λ x. nat_of (t x -ℤ pos (get_or low x 0))) (link_of Up (λ x. get_or low x 0) (arc_at arcs k))
    above_closed t s k within =
        let e = slack_is k within in
        let j = holds.among k no_arc within in
        let met : MeetsArc t (arc_at arcs k) = s.1 k no_arc within in
        let p = above t s (arc_at arcs k).to j.1 in
        let q = above t s (arc_at arcs k).from j.0 in
        omega (arith, ints, e, met, p, q)

    pub risen_least : (t : ℕ → ℤ) → IsSolution arcs t → ((x : ℕ) → 0 < start x → pos (get_or low x 0 + start x) ≤ℤ t x) → (x : ℕ) → x < length low → pos (get_or low x 0 + g x) ≤ℤ t x
    risen_least t s enough x within =
        let h : ℕ → ℕ = λ y. nat_of (t y -ℤ pos (get_or low y 0)) in
        let begins : (y : ℕ) → start y ≤ h y = λ y. (elim (below_or 0 (start y)) [
          | inl some ↦ (let e = enough y some in nat_of_most (t y -ℤ pos (get_or low y 0)) (start y) (omega (arith, ints, e)))
          | inr none ↦ omega (arith, none)
        ]) in
        let below : g x ≤ nat_of (t x -ℤ pos (get_or low x 0)) = least h (above_closed t s) begins x in
        let r = above t s x within in
        omega (arith, ints, below, r)

-- ---- what is set out, event by event

module _ (e : ℕ) (fixed : List (Option ℕ)) (lags : List ℕ) (now : ℕ) (low : List ℕ) (w : Work) (o : AreOffered (AsksUpto e fixed lags now) low w) where
  more_asks : (x q : ℕ) → AsksUpto e fixed lags now x q → AsksUpto (e + 1) fixed lags now x q
  more_asks x q a = (a.0, a.1, (let b = a.2 in omega (arith, b)), a.3, a.4)

  pub offered_passed : (slice_index_or fixed e None ≡ None → floor_at now lags e ≤ get_or low (suc e) 0) → AreOffered (AsksUpto (e + 1) fixed lags now) low w
  offered_passed quiet = record {
    ready = o.ready;
    enough = λ x q a.
        (elim (same_or a.0 e) [
          | inl same ↦
              (let free : slice_index_or fixed e None ≡ None = subst (λ k. slice_index_or fixed k None ≡ None) same a.3 in
              let h = quiet free in
              let v : q ≡ floor_at now lags e = a.4 ∙ ap (floor_at now lags) same in
              let x_is : get_or low x 0 ≡ get_or low (suc e) 0 = ap (λ y. get_or low y 0) (a.1 ∙ ap suc same) in
              omega (arith, h, v, x_is))
          | inr ne ↦ o.enough x q (a.0, a.1, (let b = a.2 in omega (arith, b, ne)), a.3, a.4)
        ]);
    some = λ x some. more_asks x (get_or low x 0 + get_or w.amounts.items x 0) (o.some x some);
  }

  pub offered_more : (w' : Work) (p v : ℕ) → p ≡ suc e → v ≡ floor_at now lags e → IsReady (length low) w' → slice_index_or fixed e None ≡ None → get_or low p 0 < v
      → get_or w'.amounts.items p 0 ≡ v - get_or low p 0
      → ((x : ℕ) → x ≢ p → get_or w'.amounts.items x 0 ≡ get_or w.amounts.items x 0)
      → AreOffered (AsksUpto (e + 1) fixed lags now) low w'
  offered_more w' p v at v_is ready free above here others = record {
    ready = ready;
    enough = λ x q a.
        (elim (same_or a.0 e) [
          | inl same ↦
              (let q_is : q ≡ floor_at now lags e = a.4 ∙ ap (floor_at now lags) same in
              let x_is : x ≡ p = a.1 ∙ (ap suc same ∙ sym at) in
              let l : get_or low x 0 ≡ get_or low p 0 = ap (λ y. get_or low y 0) x_is in
              let g : get_or w'.amounts.items x 0 ≡ get_or w'.amounts.items p 0 = ap (λ y. get_or w'.amounts.items y 0) x_is in
              omega (arith, q_is, v_is, l, g, here, above))
          | inr ne ↦
              (let apart : x ≢ p = λ is. ne (let b = a.1 in omega (arith, b, is, at)) in
              let h = o.enough x q (a.0, a.1, (let b = a.2 in omega (arith, b, ne)), a.3, a.4) in
              let g = others x apart in
              omega (arith, h, g))
        ]);
    some = λ x some.
        (elim (same_or x p) [
          | inl same ↦
              (let l : get_or low x 0 ≡ get_or low p 0 = ap (λ y. get_or low y 0) same in
              let g : get_or w'.amounts.items x 0 ≡ get_or w'.amounts.items p 0 = ap (λ y. get_or w'.amounts.items y 0) same in
              (e, same ∙ at, omega arith, free, omega (arith, l, g, here, above, v_is)))
          | inr ne ↦
              (let g = others x ne in
              let a = o.some x (omega (arith, g, some)) in
              (a.0, a.1, (let b = a.2 in omega (arith, b)), a.3, (let v = a.4 in omega (arith, g, v))))
        ]);
  }

-- the floors of events that are not fixed rise
module _ (now : ℕ) (lags floors : List ℕ) (fixed : List (Option ℕ)) (old : List (Option Node)) (low high amounts : List ℕ)
    (exact : AreExact (arcs_of old) low high)
    (some : 0 < length low)
    (wait : AllWait fixed high lags now)
    (r : IsRaisedTo (arcs_of old) (AsksFloor fixed lags now) low amounts)
  where
    high_asked : (x q : ℕ) → AsksFloor fixed lags now x q → pos q ≤ℤ moment high x
    high_asked x q a =
        let w = wait a.0 a.2 a.3 in
        let e : get_or high x 0 ≡ get_or high (suc a.0) 0 = ap (λ y. get_or high y 0) a.1 in
        let f = a.4 in
        omega (arith, ints, w, e, f)

    pub floors_below_high : (x : ℕ) → x < length low → get_or low x 0 + get_or amounts x 0 ≤ get_or high x 0
    floors_below_high x within = let h = r.least (moment high) exact.greatest.solution high_asked x within in omega (arith, ints, h)

    origin_stays : get_or low 0 0 + get_or amounts 0 0 ≡ 0
    origin_stays = let h = floors_below_high 0 some in let o = exact.greatest.solution.0 in omega (arith, ints, h, o)

    module _ (clock : ℕ) (new : List (Option Node)) (low' : List ℕ)
        (forward : clock ≤ now)
        (only : (k : ℕ) (n : Node) → slice_index_or old k None ≡ Some n → IsOpenFloor floors fixed n.name k)
        (there : (e : ℕ) → e < length fixed → slice_index_or fixed e None ≡ None → (n : Node) × (slice_index_or old (get_or floors e 0) None ≡ Some n) × (n.name ≡ Now e))
        (before : (k : ℕ) (n : Node) → slice_index_or old k None ≡ Some n → n.arc ≡ (raised_node clock lags n).arc)
        (events : (k : ℕ) (n : Node) → slice_index_or old k None ≡ Some n → IsFromEvent n.name n.arc)
        (m : AreMapped (raised_node now lags) old new)
        (len : length low' ≡ length low)
        (each : (x : ℕ) → x < length low → get_or low' x 0 ≡ get_or low x 0 + get_or amounts x 0)
      where
        raised_met : (t : ℕ → ℤ) → t 0 ≡ pos 0 → ((x q : ℕ) → AsksFloor fixed lags now x q → pos q ≤ℤ t x) → (f : Edge) (a : Arc) (k : ℕ) → IsOpenFloor floors fixed f k → IsFromEvent f a → MeetsArc t a → MeetsArc t (raised_by now lags f a)
        raised_met t o asked (Own id) a k free from met = met
        raised_met t o asked New a k free from met = met
        raised_met t o asked (PastHigh e) a k free from met = met
        raised_met t o asked (PastLow e) a k free from met = met
        raised_met t o asked (Now e) a k free from met =
            let h : pos (floor_at now lags e) ≤ℤ t (suc e) = asked (suc e) (floor_at now lags e) (e, refl, free.0, free.1, refl) in
            let b : t a.from ≡ t (suc e) = ap t from.0 in
            let c : t a.to ≡ t 0 = ap t from.1 in
            omega (arith, ints, h, b, c, o)
        raised_met t o asked (End e) a k free from met = met

        to_new : (t : ℕ → ℤ) → IsSolution (arcs_of old) t → ((x q : ℕ) → AsksFloor fixed lags now x q → pos q ≤ℤ t x) → IsSolution (arcs_of new) t
        to_new t s asked = solution_by_key new t s.0 (λ k n is.
            (let h = m.back k n is in
            subst (MeetsArc t) (sym h.3) (raised_met t s.0 asked h.0.name h.0.arc k (only k h.0 h.1) (events k h.0 h.1) (key_met old t k h.0 h.1 s))))

        was_met : (t : ℕ → ℤ) → (f : Edge) (a : Arc) → a ≡ raised_by clock lags f a → MeetsArc t (raised_by now lags f a) → MeetsArc t a
        was_met t (Own id) a is met = met
        was_met t New a is met = met
        was_met t (PastHigh e) a is met = met
        was_met t (PastLow e) a is met = met
        was_met t (Now e) a is met =
            let w : a.weight ≡ pos 0 -ℤ pos (floor_at clock lags e) = ap (λ (x : Arc). x.weight) is in
            omega (arith, ints, w, met, forward)
        was_met t (End e) a is met = met

        to_old : (t : ℕ → ℤ) → IsSolution (arcs_of new) t → IsSolution (arcs_of old) t
        to_old t s = solution_by_key old t s.0 (λ k n is.
            (let h = m.forth k n is in
            was_met t n.name n.arc (before k n is) (subst (MeetsArc t) h.3 (key_met new t k h.0 h.1 s))))

        floor_met : (t : ℕ → ℤ) → t 0 ≡ pos 0 → (e : ℕ) (f : Edge) (a : Arc) → f ≡ Now e → IsFromEvent f a → MeetsArc t (raised_by now lags f a) → pos (floor_at now lags e) ≤ℤ t (suc e)
        floor_met t o e f a named from met =
            let from' : IsFromEvent (Now e) a = subst (λ x. IsFromEvent x a) named from in
            let met' : MeetsArc t (raised_by now lags (Now e) a) = subst (λ x. MeetsArc t (raised_by now lags x a)) named met in
            let b : t a.from ≡ t (suc e) = ap t from'.0 in
            let c : t a.to ≡ t 0 = ap t from'.1 in
            omega (arith, ints, met', b, c, o)

        new_asked : (t : ℕ → ℤ) → IsSolution (arcs_of new) t → (x q : ℕ) → AsksFloor fixed lags now x q → pos q ≤ℤ t x
        new_asked t s x q a =
            let n = there a.0 a.2 a.3 in
            let h = m.forth (get_or floors a.0 0) n.0 n.1 in
            let met = subst (MeetsArc t) h.3 (key_met new t (get_or floors a.0 0) h.0 h.1 s) in
            let f = floor_met t s.0 a.0 n.0.name n.0.arc n.2 (events (get_or floors a.0 0) n.0 n.1) met in
            let e : t x ≡ t (suc a.0) = ap t a.1 in
            let q_is = a.4 in
            omega (arith, ints, f, e, q_is)

        same_moment : (x : ℕ) → pos (get_or low x 0 + get_or amounts x 0) ≡ moment low' x
        same_moment x =
            elim (below_or x (length low)) [
              | inl within ↦ ap pos (sym (each x within))
              | inr above ↦
                  (let a : get_or low x 0 ≡ 0 = get_or-eq_default low 0 above in
                  let b : get_or amounts x 0 ≡ 0 = (let l = r.len in get_or-eq_default amounts 0 (omega (arith, l, above))) in
                  let c : get_or low' x 0 ≡ 0 = get_or-eq_default low' 0 (omega (arith, len, above)) in
                  ap pos (let e : get_or low x 0 + get_or amounts x 0 ≡ get_or low' x 0 = omega (arith, a, b, c) in e))
            ]

        solution_old : IsSolution (arcs_of old) (moment low')
        solution_old = (
          sym (same_moment 0) ∙ ap pos origin_stays,
          λ k d within. meets_same (λ x. pos (get_or low x 0 + get_or amounts x 0)) (moment low') (slice_index_or (arcs_of old) k d) (same_moment (slice_index_or (arcs_of old) k d).from) (same_moment (slice_index_or (arcs_of old) k d).to) (r.meets k d within),
        )

        pub floors_exact : AreExact (arcs_of new) low' high
        floors_exact = record {
          len = len ∙ exact.len;
          least = record {
            solution = to_new (moment low') solution_old (λ x q a. (let h = r.enough x q a in let s = same_moment x in omega (arith, ints, h, s)));
            least = λ t s x within.
                (let inside : x < length low = omega (arith, len, within) in
                let h = r.least t (to_old t s) (new_asked t s) x inside in
                let e = same_moment x in
                omega (arith, ints, h, e));
          };
          greatest = record {
            solution = to_new (moment high) exact.greatest.solution high_asked;
            greatest = λ t s x within. exact.greatest.greatest t (to_old t s) x within;
          };
        }
