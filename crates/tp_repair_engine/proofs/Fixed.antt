-- The moments after an event is fixed.
use Prim.Native.Nat.{max}
use Rattle.std.proofs.Common.{◌≡◌, ◌≢◌, ℕ, suc, ◌-◌, ◌<◌, inl, inr, List, [], ◌∷◌, ◌++◌, length, get_or, sym, ◌∙◌, ap, subst, arith}
use Rattle.std.specs.Prelude.{Option, Some, None, slice_index_or, ℤ, pos, ◌+ℤ◌, ◌-ℤ◌, ◌≤ℤ◌}
use Rattle.std.proofs.lemmas.Int.{ints}
use Rattle.tp_bounds.specs.declared.Edge.{Edge}
use Rattle.tp_bounds.specs.Reasons.{at_least, at_most}
use Rattle.tp_net.specs.declared.slacks.Arc.{Arc}
use Rattle.tp_net.specs.Graph.{MeetsArc, IsSolution, IsLeast, IsGreatest, IsChain, IsNegativeCycle, HasNoSolution, weight_of, arc_at, no_arc, moment}
use Rattle.tp_net.specs.Moments.{AreExact}
use Rattle.tp_net.specs.Arcs.{arc_of}
use Rattle.tp_net.proofs.Additions.{with_new, without_new}
use Rattle.tp_net.proofs.Spreads.{same_or}
use Rattle.tp_repair_engine.specs.declared.store.Node.{Node}
use Rattle.tp_repair_engine.specs.Store.{arcs_of, weighed}
use Rattle.tp_repair_engine.proofs.Nodes.{solution_by_key, key_met}
use Rattle.tp_repair_engine.proofs.Settled.{one_node}

-- no solution meets the arcs of a negative cycle
chain_most : (arcs : List Arc) (t : ℕ → ℤ) → IsSolution arcs t → (a b : ℕ) (ks : List ℕ) → IsChain arcs a b ks → t b ≤ℤ (t a +ℤ weight_of arcs ks)
chain_most arcs t s a b [] is = let e : t a ≡ t b = ap t is in omega (arith, ints, e)
chain_most arcs t s a b (k ∷ ks) c =
    let rest = chain_most arcs t s (arc_at arcs k).to b ks c.2 in
    let met : MeetsArc t (arc_at arcs k) = s.1 k no_arc c.0 in
    let e : t (arc_at arcs k).from ≡ t a = ap t c.1 in
    omega (arith, ints, rest, met, e)

pub cycle_none : (arcs : List Arc) (cycle : List ℕ) → IsNegativeCycle arcs cycle → HasNoSolution arcs
cycle_none arcs cycle c t s =
    let h = chain_most arcs t s c.start c.start cycle c.chain in
    let b = c.below in
    omega (arith, ints, h, b)

-- a solution in which an event happens at a moment of its window
pub between_met : (arcs : List Arc) (low high : List ℕ) (back : ℕ) → IsSolution arcs (moment low) → IsSolution arcs (moment high) → IsSolution arcs (λ x. pos (max (get_or low x 0) (get_or high x 0 - back)))
between_met arcs low high back l h = (
  (let a = l.0 in let b = h.0 in let e : max (get_or low 0 0) (get_or high 0 0 - back) ≡ 0 = omega (arith, ints, a, b) in ap pos e),
  λ k d within.
      (let a : MeetsArc (moment low) (slice_index_or arcs k d) = l.1 k d within in
      let b : MeetsArc (moment high) (slice_index_or arcs k d) = h.1 k d within in
      omega (arith, ints, a, b)),
)

module _ (e m floor end : ℕ) (old new : List (Option Node)) (f h : Node) (f_name h_name : Edge) (v w : ℤ)
    (f_is : slice_index_or old floor None ≡ Some f)
    (h_is : slice_index_or old end None ≡ Some h)
    (f_now : slice_index_or new floor None ≡ Some (weighed f_name v f))
    (h_now : slice_index_or new end None ≡ Some (weighed h_name w h))
    (others : (k : ℕ) → k ≢ floor → k ≢ end → slice_index_or new k None ≡ slice_index_or old k None)
    (f_arc : (f.arc.from ≡ suc e) × (f.arc.to ≡ 0) × ((pos 0 -ℤ pos m) ≤ℤ f.arc.weight))
    (h_arc : (h.arc.from ≡ 0) × (h.arc.to ≡ suc e) × (pos m ≤ℤ h.arc.weight))
    (v_is : v ≡ pos 0 -ℤ pos m)
    (w_is : w ≡ pos m)
  where
    to_new : (t : ℕ → ℤ) → IsSolution (arcs_of old) t → t (suc e) ≡ pos m → IsSolution (arcs_of new) t
    to_new t s at = solution_by_key new t s.0 (λ k n is.
        (let o = s.0 in
        elim (same_or k floor) [
          | inl same ↦
              (let it : n ≡ weighed f_name v f = one_node new k floor n (weighed f_name v f) same f_now is in
              let a : t f.arc.from ≡ t (suc e) = ap t f_arc.0 in
              let b : t f.arc.to ≡ t 0 = ap t f_arc.1 in
              let met : MeetsArc t (weighed f_name v f).arc = omega (arith, ints, a, b, o, at, v_is) in
              subst (λ (x : Node). MeetsArc t x.arc) (sym it) met)
          | inr ne ↦
              (elim (same_or k end) [
                | inl same ↦
                    (let it : n ≡ weighed h_name w h = one_node new k end n (weighed h_name w h) same h_now is in
                    let a : t h.arc.from ≡ t 0 = ap t h_arc.0 in
                    let b : t h.arc.to ≡ t (suc e) = ap t h_arc.1 in
                    let met : MeetsArc t (weighed h_name w h).arc = omega (arith, ints, a, b, o, at, w_is) in
                    subst (λ (x : Node). MeetsArc t x.arc) (sym it) met)
                | inr other ↦ key_met old t k n (sym (others k ne other) ∙ is) s
              ])
        ]))

    floor_now : (t : ℕ → ℤ) → IsSolution (arcs_of new) t → MeetsArc t (weighed f_name v f).arc
    floor_now t s = key_met new t floor (weighed f_name v f) f_now s

    end_now : (t : ℕ → ℤ) → IsSolution (arcs_of new) t → MeetsArc t (weighed h_name w h).arc
    end_now t s = key_met new t end (weighed h_name w h) h_now s

    to_old : (t : ℕ → ℤ) → IsSolution (arcs_of new) t → IsSolution (arcs_of old) t
    to_old t s = solution_by_key old t s.0 (λ k n is.
        (elim (same_or k floor) [
          | inl same ↦
              (let it : n ≡ f = one_node old k floor n f same f_is is in
              let a = floor_now t s in
              let less = f_arc.2 in
              let met : MeetsArc t f.arc = omega (arith, ints, a, less, v_is) in
              subst (λ (x : Node). MeetsArc t x.arc) (sym it) met)
          | inr ne ↦
              (elim (same_or k end) [
                | inl same ↦
                    (let it : n ≡ h = one_node old k end n h same h_is is in
                    let a = end_now t s in
                    let less = h_arc.2 in
                    let met : MeetsArc t h.arc = omega (arith, ints, a, less, w_is) in
                    subst (λ (x : Node). MeetsArc t x.arc) (sym it) met)
                | inr other ↦ key_met new t k n (others k ne other ∙ is) s
              ])
        ]))

    new_at : (t : ℕ → ℤ) → IsSolution (arcs_of new) t → t (suc e) ≡ pos m
    new_at t s =
        let o = s.0 in
        let a = floor_now t s in
        let b = end_now t s in
        let a_from : t f.arc.from ≡ t (suc e) = ap t f_arc.0 in
        let a_to : t f.arc.to ≡ t 0 = ap t f_arc.1 in
        let b_from : t h.arc.from ≡ t 0 = ap t h_arc.0 in
        let b_to : t h.arc.to ≡ t (suc e) = ap t h_arc.1 in
        omega (arith, ints, o, a, b, a_from, a_to, b_from, b_to, v_is, w_is)

    least_met : (t : ℕ → ℤ) → t 0 ≡ pos 0 → t (suc e) ≡ pos m → MeetsArc t (arc_of (at_least e m))
    least_met t o at = omega (arith, ints, o, at)

    most_met : (t : ℕ → ℤ) → t 0 ≡ pos 0 → t (suc e) ≡ pos m → MeetsArc t (arc_of (at_most e m))
    most_met t o at = omega (arith, ints, o, at)

    module _ (low high : List ℕ)
        (inside : suc e < length low)
        (inside_high : suc e < length high)
        (low_is : IsLeast (arcs_of old ++ arc_of (at_least e m) ∷ []) low)
        (high_is : IsGreatest (arcs_of old ++ arc_of (at_most e m) ∷ []) high)
        (t0 : ℕ → ℤ)
        (t0_is : IsSolution (arcs_of old) t0)
        (t0_at : t0 (suc e) ≡ pos m)
      where
        low_at : moment low (suc e) ≡ pos m
        low_at =
            let parts = without_new (arcs_of old) (arc_of (at_least e m)) (moment low) low_is.solution in
            let met : moment low 0 ≤ℤ (moment low (suc e) +ℤ (pos 0 -ℤ pos m)) = parts.1 in
            let o = low_is.solution.0 in
            let below = low_is.least t0 (with_new (arcs_of old) (arc_of (at_least e m)) t0 t0_is (least_met t0 t0_is.0 t0_at)) (suc e) inside in
            let z : get_or low (suc e) 0 ≡ m = omega (arith, ints, met, o, below, t0_at) in
            ap pos z

        high_at : moment high (suc e) ≡ pos m
        high_at =
            let parts = without_new (arcs_of old) (arc_of (at_most e m)) (moment high) high_is.solution in
            let met : moment high (suc e) ≤ℤ (moment high 0 +ℤ pos m) = parts.1 in
            let o = high_is.solution.0 in
            let above = high_is.greatest t0 (with_new (arcs_of old) (arc_of (at_most e m)) t0 t0_is (most_met t0 t0_is.0 t0_at)) (suc e) inside_high in
            let z : get_or high (suc e) 0 ≡ m = omega (arith, ints, met, o, above, t0_at) in
            ap pos z

        pub fixed_exact : length low ≡ length high → AreExact (arcs_of new) low high
        fixed_exact len = record {
          len = len;
          least = record {
            solution = to_new (moment low) (without_new (arcs_of old) (arc_of (at_least e m)) (moment low) low_is.solution).0 low_at;
            least = λ t s x within. low_is.least t (with_new (arcs_of old) (arc_of (at_least e m)) t (to_old t s) (least_met t s.0 (new_at t s))) x within;
          };
          greatest = record {
            solution = to_new (moment high) (without_new (arcs_of old) (arc_of (at_most e m)) (moment high) high_is.solution).0 high_at;
            greatest = λ t s x within. high_is.greatest t (with_new (arcs_of old) (arc_of (at_most e m)) t (to_old t s) (most_met t s.0 (new_at t s))) x within;
          };
        }
