-- From which solution the moments after a change can be worked out.
use Rattle.std.proofs.Common.{◌≡◌, ◌≢◌, ℕ, zero, suc, ◌<◌, ◌^◌, inl, inr, List, [], ◌∷◌, length, get_or, refl, sym, ◌∙◌, ap, subst, arith}
use Rattle.std.specs.Prelude.{All, Option, Some, None, slice_index_or, ℤ, pos, ◌+ℤ◌, ◌-ℤ◌, ◌≤ℤ◌, ◌<ℤ◌}
use Rattle.std.proofs.lemmas.Int.{ints}
use Rattle.std.proofs.lemmas.Option.{none-some}
use Rattle.tp_net.specs.declared.slacks.Arc.{Arc}
use Rattle.tp_net.specs.Graph.{MeetsArc, IsSolution, arc_at, no_arc, moment}
use Rattle.tp_net.specs.Moments.{IsStart, AreExact}
use Rattle.tp_net.specs.Sizes.{IsSmallWeight}
use Rattle.tp_net.specs.Slacks.{JoinsPoints}
use Rattle.tp_net.proofs.Spreads.{same_or}
use Rattle.tp_repair_engine.specs.declared.store.Node.{Node}
use Rattle.tp_repair_engine.specs.Store.{arcs_of, kept_arcs, KeepsOthers}
use Rattle.tp_repair_engine.specs.Slots.{left_slots}
use Rattle.tp_repair_engine.proofs.Stores.{arc_is}
use Rattle.tp_repair_engine.proofs.Nodes.{all_by_key, solution_by_key, key_met, listed_key, key_listed, solution_kept, exact_alike}

-- what holds of a node's arc among those that are listed
kept_has : (P : Arc → Type 0) (slots : List (Option Node)) (k : ℕ) (n : Node) → slice_index_or slots k None ≡ Some n → All P (kept_arcs slots) → P n.arc
kept_has P slots k n is all = let h = listed_key slots k n is in subst P h.2 (all h.0 no_arc h.1)

-- over edges that are there, and others that are met
pub start_over : (a new : List (Option Node)) (known : List ℕ) (amount : ℕ)
    → ((k : ℕ) (n : Node) → slice_index_or a k None ≡ Some n → (m : Node) × (slice_index_or new k None ≡ Some m) × (m.arc ≡ n.arc))
    → ((k : ℕ) (m : Node) → slice_index_or new k None ≡ Some m → IsSmallWeight m.arc.weight × JoinsPoints (length known) m.arc × MeetsArc (moment known) m.arc)
    → IsStart (kept_arcs a) known amount → IsStart (arcs_of new) known amount
start_over a new known amount there each s = record {
  origin = s.origin;
  small = s.small;
  weights = all_by_key (λ (e : Arc). IsSmallWeight e.weight) new (omega (arith, ints), omega (arith, ints)) (λ k m is. (each k m is).0);
  among = all_by_key (JoinsPoints (length known)) new (s.origin, s.origin) (λ k m is. (each k m is).1);
  solution = solution_by_key new (moment known) s.solution.0 (λ k m is. (each k m is).2);
  reach = λ x later within.
      (let r = s.reach x later within in
      let h = key_listed a r.0 r.1 in
      let g = there h.0 h.1 h.2 in
      let at = arc_is new h.0 g.0 g.1 in
      let same : arc_at (kept_arcs a) r.0 ≡ arc_at (arcs_of new) h.0 = h.3 ∙ (sym g.2 ∙ sym at.1) in
      (h.0, at.0, subst (λ (e : Arc). e.from ≡ x) same r.2, subst (λ (e : Arc). e.to ≡ 0) same r.3, subst (λ (e : Arc). (pos (get_or known x 0) +ℤ e.weight) <ℤ pos amount) same r.4, subst (λ (e : Arc). pos 0 ≤ℤ (pos 0 -ℤ e.weight)) same r.5));
  from = λ x later within.
      (let r = s.from x later within in
      let h = key_listed a r.0 r.1 in
      let g = there h.0 h.1 h.2 in
      let at = arc_is new h.0 g.0 g.1 in
      let same : arc_at (kept_arcs a) r.0 ≡ arc_at (arcs_of new) h.0 = h.3 ∙ (sym g.2 ∙ sym at.1) in
      (h.0, at.0, subst (λ (e : Arc). e.from ≡ 0) same r.2, subst (λ (e : Arc). e.to ≡ x) same r.3, subst (λ (e : Arc). e.weight <ℤ (pos (get_or known x 0) +ℤ pos amount)) same r.4));
}

-- ---- an edge leaves

pub left_here : (slots : List (Option Node)) (key : ℕ) → slice_index_or (left_slots key slots) key None ≡ None
left_here [] key = refl
left_here (o ∷ slots) zero = refl
left_here (o ∷ slots) (suc key) = left_here slots key

pub left_other : (slots : List (Option Node)) (key k : ℕ) → k ≢ key → slice_index_or (left_slots key slots) k None ≡ slice_index_or slots k None
left_other [] key k ne = refl
left_other (o ∷ slots) zero zero ne = absurd (ne refl)
left_other (o ∷ slots) zero (suc k) ne = refl
left_other (o ∷ slots) (suc key) zero ne = refl
left_other (o ∷ slots) (suc key) (suc k) ne = left_other slots key k (λ e. ne (ap suc e))

-- where a solution of arcs can be
pub start_bounds : (arcs : List Arc) (known : List ℕ) (amount : ℕ) → IsStart arcs known amount → 0 < amount → (t : ℕ → ℤ) → IsSolution arcs t → (x : ℕ) → x < length known → (pos 0 ≤ℤ t x) × (t x <ℤ (pos (get_or known x 0) +ℤ pos amount))
start_bounds arcs known amount s some t sol x within =
    elim (same_or x 0) [
      | inl same ↦
          (let o : t x ≡ t 0 = ap t same in
          let z = sol.0 in
          (omega (arith, ints, o, z), omega (arith, ints, o, z, some)))
      | inr ne ↦
          (let later : 0 < x = omega (arith, ne) in
          let r = s.reach x later within in
          let q = s.from x later within in
          let m = sol.1 r.0 no_arc r.1 in
          let n = sol.1 q.0 no_arc q.1 in
          let a : t (arc_at arcs r.0).from ≡ t x = ap t r.2 in
          let b : t (arc_at arcs r.0).to ≡ t 0 = ap t r.3 in
          let c : t (arc_at arcs q.0).from ≡ t 0 = ap t q.2 in
          let d : t (arc_at arcs q.0).to ≡ t x = ap t q.3 in
          let z = sol.0 in
          let w = r.5 in
          let v = q.4 in
          (omega (arith, ints, m, a, b, z, w), omega (arith, ints, n, c, d, z, v)))
    ]

module _ (old mid new : List (Option Node)) (key : ℕ) (n : Node) (known : List ℕ) (amount : ℕ)
    (here : slice_index_or mid key None ≡ Some n)
    (others : (k : ℕ) → k ≢ key → slice_index_or mid k None ≡ slice_index_or old k None)
    (joins : JoinsPoints (length known) n.arc)
    (weight : n.arc.weight ≡ pos 1_000_000_000_000)
    (small : (x : ℕ) → x < length known → get_or known x 0 < 2 ^ 32)
    (positive : 0 < amount)
    (far : amount < 2 ^ 32)
    (s : IsStart (kept_arcs (left_slots key old)) known amount)
  where
    there : (k : ℕ) (m : Node) → slice_index_or (left_slots key old) k None ≡ Some m → (k ≢ key) × (slice_index_or old k None ≡ Some m)
    there k m is =
        let ne : k ≢ key = λ same. none-some m (sym (left_here old key) ∙ (ap (λ j. slice_index_or (left_slots key old) j None) (sym same) ∙ is)) in
        (ne, sym (left_other old key k ne) ∙ is)

    pub heavy_start : IsStart (arcs_of mid) known amount
    heavy_start =
        start_over (left_slots key old) mid known amount
        (λ k m is. (let h = there k m is in (m, others k h.0 ∙ h.1, refl)))
        (λ k m is.
        (elim (same_or k key) [
          | inl same ↦
              (let it : Some m ≡ Some n = sym is ∙ (ap (λ j. slice_index_or mid j None) same ∙ here) in
              let m_is : m ≡ n = cc in
              let at : m.arc ≡ n.arc = ap (λ (x : Node). x.arc) m_is in
              let a = small n.arc.to joins.1 in
              (subst (λ (e : Arc). IsSmallWeight e.weight) (sym at) (omega (arith, ints, weight), omega (arith, ints, weight)), subst (JoinsPoints (length known)) (sym at) joins, subst (MeetsArc (moment known)) (sym at) (omega (arith, ints, weight, a))))
          | inr ne ↦
              (let was = left_other old key k ne ∙ (sym (others k ne) ∙ is) in
              (kept_has (λ (e : Arc). IsSmallWeight e.weight) (left_slots key old) k m was s.weights, kept_has (JoinsPoints (length known)) (left_slots key old) k m was s.among, kept_has (MeetsArc (moment known)) (left_slots key old) k m was s.solution.1))
        ]))
        s

    -- without the edge there are no other solutions
    module _ (keeps : KeepsOthers key mid new) (gone : slice_index_or new key None ≡ None) where
      pub heavy_there : (t : ℕ → ℤ) → IsSolution (arcs_of mid) t → IsSolution (arcs_of new) t
      heavy_there t sol = solution_by_key new t sol.0 (λ k m is.
          (let ne : k ≢ key = λ same. none-some m (sym gone ∙ (ap (λ j. slice_index_or new j None) (sym same) ∙ is)) in
          let h = keeps.back k m ne is in
          subst (MeetsArc t) (sym h.3) (key_met mid t k h.0 h.1 sol)))

      left_solution : (t : ℕ → ℤ) → IsSolution (arcs_of new) t → IsSolution (kept_arcs (left_slots key old)) t
      left_solution t sol = solution_kept (left_slots key old) t (solution_by_key (left_slots key old) t sol.0 (λ k m is.
          (let h = there k m is in
          let g = keeps.forth k m h.0 (others k h.0 ∙ h.1) in
          subst (MeetsArc t) g.3 (key_met new t k g.0 g.1 sol))))

      pub heavy_back : (t : ℕ → ℤ) → IsSolution (arcs_of new) t → IsSolution (arcs_of mid) t
      heavy_back t sol = solution_by_key mid t sol.0 (λ k m is.
          (elim (same_or k key) [
            | inl same ↦
                (let it : Some m ≡ Some n = sym is ∙ (ap (λ j. slice_index_or mid j None) same ∙ here) in
                let m_is : m ≡ n = cc in
                let at : m.arc ≡ n.arc = ap (λ (x : Node). x.arc) m_is in
                let a = start_bounds (kept_arcs (left_slots key old)) known amount s positive t (left_solution t sol) n.arc.from joins.0 in
                let b = start_bounds (kept_arcs (left_slots key old)) known amount s positive t (left_solution t sol) n.arc.to joins.1 in
                let c = small n.arc.to joins.1 in
                let low = a.0 in
                let high = b.1 in
                subst (MeetsArc t) (sym at) (omega (arith, ints, weight, low, high, c, far)))
            | inr ne ↦ (let g = keeps.forth k m ne is in subst (MeetsArc t) g.3 (key_met new t k g.0 g.1 sol))
          ]))

      pub heavy_exact : (low high : List ℕ) → AreExact (arcs_of mid) low high → AreExact (arcs_of new) low high
      heavy_exact low high = exact_alike (arcs_of mid) (arcs_of new) low high heavy_there heavy_back
