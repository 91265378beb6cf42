-- Which moments an edge that leaves has held: those that follow by tight edges from where it begins, or ends.
use Rattle.std.proofs.Common.{◌≡◌, ◌≢◌, ℕ, zero, suc, ◌<◌, inl, inr, ◌⊎◌, List, length, get_or, refl, sym, ◌∙◌, ap, subst, arith}
use Rattle.std.specs.Prelude.{Option, Some, None, slice_index_or, ℤ, pos, negsuc, ◌+ℤ◌, ◌-ℤ◌, ◌≤ℤ◌, ◌<ℤ◌}
use Rattle.std.proofs.lemmas.Int.{ints}
use Rattle.tp_net.specs.declared.slacks.Arc.{Arc}
use Rattle.tp_net.specs.Graph.{MeetsArc, IsSolution, IsLeast, IsGreatest, moment}
use Rattle.tp_net.specs.Moments.{AreExact}
use Rattle.tp_net.proofs.Potentials.{nat_of, nat_of_is}
use Rattle.tp_net.proofs.Spreads.{same_or, below_or}
use Rattle.tp_repair_engine.specs.declared.store.Node.{Node}
use Rattle.tp_repair_engine.specs.Store.{arcs_of}
use Rattle.tp_repair_engine.specs.Loosened.{IsLowered, IsHeightened}
use Rattle.tp_repair_engine.proofs.Stores.{arc_is}
use Rattle.tp_repair_engine.proofs.Nodes.{solution_by_key, key_met}

-- 1 where a point is not marked and something is missing there, else 0
abbrev step : ℕ → ℕ → ℕ
step zero zero = 0
step zero (suc d) = 1
step (suc m) d = 0

step_or : (m d : ℕ) → (step m d ≡ 0) ⊎ ((step m d ≡ 1) × (m ≡ 0) × (0 < d))
step_or zero zero = inl refl
step_or zero (suc d) = inr (refl, refl, omega arith)
step_or (suc m) d = inl refl

step_one : (m d : ℕ) → m ≡ 0 → 0 < d → step m d ≡ 1
step_one zero zero is some = absurd (omega (arith, some))
step_one zero (suc d) is some = refl
step_one (suc m) d is some = absurd (omega (arith, is))

nat_of_pos : (z : ℤ) → pos 0 <ℤ z → 0 < nat_of z
nat_of_pos (pos n) h = omega (arith, ints, h)
nat_of_pos (negsuc n) h = absurd (omega (arith, ints, h))

nat_of_some : (z : ℤ) → 0 < nat_of z → pos (nat_of z) ≡ z
nat_of_some (pos n) h = refl
nat_of_some (negsuc n) h = absurd (omega (arith, h))

nat_of_none : (z : ℤ) → nat_of z ≡ 0 → z ≤ℤ pos 0
nat_of_none (pos n) h = omega (arith, ints, h)
nat_of_none (negsuc n) h = omega (arith, ints)

le_or_less : (a b : ℤ) → a ≤ℤ b → (a ≡ b) ⊎ (a <ℤ b)
le_or_less a b h =
    let d : pos (nat_of (b -ℤ a)) ≡ (b -ℤ a) = nat_of_is (b -ℤ a) (omega (arith, ints, h)) in
    elim (same_or (nat_of (b -ℤ a)) 0) [
      | inl same ↦ inl (let e : a ≡ b = omega (arith, ints, d, same) in e)
      | inr ne ↦ inr (omega (arith, ints, d, ne))
    ]

-- the edge under a key leaves; marks hold along tight edges
module _ (old new : List (Option Node)) (key : ℕ) (low : List ℕ) (marked : ℕ → ℕ) (t : ℕ → ℤ)
    (l : IsLeast (arcs_of old) low)
    (there : (k : ℕ) (n : Node) → k ≢ key → slice_index_or old k None ≡ Some n → MeetsArc t n.arc)
    (origin : t 0 ≡ pos 0)
    (follow : (k : ℕ) (n : Node) → k ≢ key → slice_index_or old k None ≡ Some n → moment low n.arc.to ≡ (moment low n.arc.from +ℤ n.arc.weight) → n.arc.from ≢ 0 → 0 < marked n.arc.to → 0 < marked n.arc.from)
    (begins : (n : Node) → slice_index_or old key None ≡ Some n → (n.arc.from ≡ 0) ⊎ ((moment low n.arc.to <ℤ (moment low n.arc.from +ℤ n.arc.weight)) ⊎ (0 < marked n.arc.from)))
  where
    low_origin : get_or low 0 0 ≡ 0
    low_origin = let o = l.solution.0 in omega (arith, ints, o)

    quiet_origin : step (marked 0) (nat_of (pos (get_or low 0 0) -ℤ t 0)) ≡ 0
    quiet_origin = elim (step_or (marked 0) (nat_of (pos (get_or low 0 0) -ℤ t 0))) [
      | inl none ↦ none
      | inr one ↦ (let e = nat_of_some (pos (get_or low 0 0) -ℤ t 0) one.2 in let some = one.2 in let z = low_origin in absurd (omega (arith, ints, e, some, z, origin)))
    ]

    met_step : (a : Arc) → MeetsArc (moment low) a
        → (step (marked a.from) (nat_of (pos (get_or low a.from 0) -ℤ t a.from)) ≡ 1 → moment low a.to ≡ (moment low a.from +ℤ a.weight) → step (marked a.to) (nat_of (pos (get_or low a.to 0) -ℤ t a.to)) ≡ 1)
        → MeetsArc (λ x. pos (get_or low x 0) -ℤ pos (step (marked x) (nat_of (pos (get_or low x 0) -ℤ t x)))) a
    met_step a met goes =
        elim (step_or (marked a.from) (nat_of (pos (get_or low a.from 0) -ℤ t a.from))) [
          | inl none ↦ omega (arith, ints, none, met)
          | inr one ↦
              (let here = one.0 in
              elim (le_or_less (moment low a.to) (moment low a.from +ℤ a.weight) met) [
                | inl tight ↦ (let next = goes here tight in omega (arith, ints, here, next, tight))
                | inr slack ↦ omega (arith, ints, here, slack)
              ])
        ]

    not_origin : (x : ℕ) → step (marked x) (nat_of (pos (get_or low x 0) -ℤ t x)) ≡ 1 → x ≢ 0
    not_origin x one is = let e : step (marked x) (nat_of (pos (get_or low x 0) -ℤ t x)) ≡ step (marked 0) (nat_of (pos (get_or low 0 0) -ℤ t 0)) = ap (λ y. step (marked y) (nat_of (pos (get_or low y 0) -ℤ t y))) is in
        let z = quiet_origin in omega (arith, e, z, one)

    unmarked : (x : ℕ) → step (marked x) (nat_of (pos (get_or low x 0) -ℤ t x)) ≡ 1 → (marked x ≡ 0) × (t x <ℤ pos (get_or low x 0))
    unmarked x one = elim (step_or (marked x) (nat_of (pos (get_or low x 0) -ℤ t x))) [
      | inl none ↦ absurd (omega (arith, none, one))
      | inr h ↦ (h.1, (let e = nat_of_some (pos (get_or low x 0) -ℤ t x) h.2 in let some = h.2 in omega (arith, ints, e, some)))
    ]

    held_solution : IsSolution (arcs_of old) (λ x. pos (get_or low x 0) -ℤ pos (step (marked x) (nat_of (pos (get_or low x 0) -ℤ t x))))
    held_solution = solution_by_key old (λ x. pos (get_or low x 0) -ℤ pos (step (marked x) (nat_of (pos (get_or low x 0) -ℤ t x)))) (let q = quiet_origin in let z = low_origin in omega (arith, ints, q, z)) (λ k n is.
        met_step n.arc (key_met old (moment low) k n is l.solution)
        (λ one tight.
        (let ne = not_origin n.arc.from one in
        let h = unmarked n.arc.from one in
        elim (same_or k key) [
          | inl same ↦
              (elim (begins n (ap (λ j. slice_index_or old j None) (sym same) ∙ is)) [
                | inl zero_from ↦ absurd (ne zero_from)
                | inr more ↦
                    (elim more [
                      | inl slack ↦ absurd (omega (arith, ints, slack, tight))
                      | inr some ↦ (let z = h.0 in absurd (omega (arith, z, some)))
                    ])
              ])
          | inr other ↦
              (let met = there k n other is in
              let less = h.1 in
              let below : t n.arc.to <ℤ pos (get_or low n.arc.to 0) = omega (arith, ints, met, less, tight) in
              let free : marked n.arc.to ≡ 0 = (elim (below_or 0 (marked n.arc.to)) [
                | inl some ↦ (let z = h.0 in let f = follow k n other is tight ne some in absurd (omega (arith, z, f)))
                | inr none ↦ omega (arith, none)
              ]) in
              step_one (marked n.arc.to) (nat_of (pos (get_or low n.arc.to 0) -ℤ t n.arc.to)) free (nat_of_pos (pos (get_or low n.arc.to 0) -ℤ t n.arc.to) (omega (arith, ints, below))))
        ])))

    -- where nothing is marked the least moment stays
    pub held_low : (x : ℕ) → x < length low → marked x ≡ 0 → moment low x ≤ℤ t x
    held_low x within free =
        let h = l.least (λ x. pos (get_or low x 0) -ℤ pos (step (marked x) (nat_of (pos (get_or low x 0) -ℤ t x)))) held_solution x within in
        elim (below_or 0 (nat_of (pos (get_or low x 0) -ℤ t x))) [
          | inl some ↦ (let one = step_one (marked x) (nat_of (pos (get_or low x 0) -ℤ t x)) free some in absurd (omega (arith, ints, h, one)))
          | inr none ↦ (let z = nat_of_none (pos (get_or low x 0) -ℤ t x) (omega (arith, none)) in omega (arith, ints, z))
        ]

-- the same for the greatest moments
module _ (old new : List (Option Node)) (key : ℕ) (high : List ℕ) (marked : ℕ → ℕ) (t : ℕ → ℤ)
    (l : IsGreatest (arcs_of old) high)
    (there : (k : ℕ) (n : Node) → k ≢ key → slice_index_or old k None ≡ Some n → MeetsArc t n.arc)
    (origin : t 0 ≡ pos 0)
    (follow : (k : ℕ) (n : Node) → k ≢ key → slice_index_or old k None ≡ Some n → moment high n.arc.to ≡ (moment high n.arc.from +ℤ n.arc.weight) → n.arc.to ≢ 0 → 0 < marked n.arc.from → 0 < marked n.arc.to)
    (ends : (n : Node) → slice_index_or old key None ≡ Some n → (n.arc.to ≡ 0) ⊎ ((moment high n.arc.to <ℤ (moment high n.arc.from +ℤ n.arc.weight)) ⊎ (0 < marked n.arc.to)))
  where
    high_origin : get_or high 0 0 ≡ 0
    high_origin = let o = l.solution.0 in omega (arith, ints, o)

    quiet_origin_high : step (marked 0) (nat_of (t 0 -ℤ pos (get_or high 0 0))) ≡ 0
    quiet_origin_high = elim (step_or (marked 0) (nat_of (t 0 -ℤ pos (get_or high 0 0)))) [
      | inl none ↦ none
      | inr one ↦ (let e = nat_of_some (t 0 -ℤ pos (get_or high 0 0)) one.2 in let some = one.2 in let z = high_origin in absurd (omega (arith, ints, e, some, z, origin)))
    ]

    met_step_high : (a : Arc) → MeetsArc (moment high) a
        → (step (marked a.to) (nat_of (t a.to -ℤ pos (get_or high a.to 0))) ≡ 1 → moment high a.to ≡ (moment high a.from +ℤ a.weight) → step (marked a.from) (nat_of (t a.from -ℤ pos (get_or high a.from 0))) ≡ 1)
        → MeetsArc (λ x. pos (get_or high x 0) +ℤ pos (step (marked x) (nat_of (t x -ℤ pos (get_or high x 0))))) a
    met_step_high a met goes =
        elim (step_or (marked a.to) (nat_of (t a.to -ℤ pos (get_or high a.to 0)))) [
          | inl none ↦ omega (arith, ints, none, met)
          | inr one ↦
              (let here = one.0 in
              elim (le_or_less (moment high a.to) (moment high a.from +ℤ a.weight) met) [
                | inl tight ↦ (let next = goes here tight in omega (arith, ints, here, next, tight))
                | inr slack ↦ omega (arith, ints, here, slack)
              ])
        ]

    not_origin_high : (x : ℕ) → step (marked x) (nat_of (t x -ℤ pos (get_or high x 0))) ≡ 1 → x ≢ 0
    not_origin_high x one is = let e : step (marked x) (nat_of (t x -ℤ pos (get_or high x 0))) ≡ step (marked 0) (nat_of (t 0 -ℤ pos (get_or high 0 0))) = ap (λ y. step (marked y) (nat_of (t y -ℤ pos (get_or high y 0)))) is in
        let z = quiet_origin_high in omega (arith, e, z, one)

    unmarked_high : (x : ℕ) → step (marked x) (nat_of (t x -ℤ pos (get_or high x 0))) ≡ 1 → (marked x ≡ 0) × (pos (get_or high x 0) <ℤ t x)
    unmarked_high x one = elim (step_or (marked x) (nat_of (t x -ℤ pos (get_or high x 0)))) [
      | inl none ↦ absurd (omega (arith, none, one))
      | inr h ↦ (h.1, (let e = nat_of_some (t x -ℤ pos (get_or high x 0)) h.2 in let some = h.2 in omega (arith, ints, e, some)))
    ]

    held_solution_high : IsSolution (arcs_of old) (λ x. pos (get_or high x 0) +ℤ pos (step (marked x) (nat_of (t x -ℤ pos (get_or high x 0)))))
    held_solution_high = solution_by_key old (λ x. pos (get_or high x 0) +ℤ pos (step (marked x) (nat_of (t x -ℤ pos (get_or high x 0))))) (let q = quiet_origin_high in let z = high_origin in omega (arith, ints, q, z)) (λ k n is.
        met_step_high n.arc (key_met old (moment high) k n is l.solution)
        (λ one tight.
        (let ne = not_origin_high n.arc.to one in
        let h = unmarked_high n.arc.to one in
        elim (same_or k key) [
          | inl same ↦
              (elim (ends n (ap (λ j. slice_index_or old j None) (sym same) ∙ is)) [
                | inl zero_to ↦ absurd (ne zero_to)
                | inr more ↦
                    (elim more [
                      | inl slack ↦ absurd (omega (arith, ints, slack, tight))
                      | inr some ↦ (let z = h.0 in absurd (omega (arith, z, some)))
                    ])
              ])
          | inr other ↦
              (let met = there k n other is in
              let less = h.1 in
              let above : pos (get_or high n.arc.from 0) <ℤ t n.arc.from = omega (arith, ints, met, less, tight) in
              let free : marked n.arc.from ≡ 0 = (elim (below_or 0 (marked n.arc.from)) [
                | inl some ↦ (let z = h.0 in let f = follow k n other is tight ne some in absurd (omega (arith, z, f)))
                | inr none ↦ omega (arith, none)
              ]) in
              step_one (marked n.arc.from) (nat_of (t n.arc.from -ℤ pos (get_or high n.arc.from 0))) free (nat_of_pos (t n.arc.from -ℤ pos (get_or high n.arc.from 0)) (omega (arith, ints, above))))
        ])))

    -- where nothing is marked the greatest moment stays
    pub held_high : (x : ℕ) → x < length high → marked x ≡ 0 → t x ≤ℤ moment high x
    held_high x within free =
        let h = l.greatest (λ x. pos (get_or high x 0) +ℤ pos (step (marked x) (nat_of (t x -ℤ pos (get_or high x 0))))) held_solution_high x within in
        elim (below_or 0 (nat_of (t x -ℤ pos (get_or high x 0)))) [
          | inl some ↦ (let one = step_one (marked x) (nat_of (t x -ℤ pos (get_or high x 0))) free some in absurd (omega (arith, ints, h, one)))
          | inr none ↦ (let z = nat_of_none (t x -ℤ pos (get_or high x 0)) (omega (arith, none)) in omega (arith, ints, z))
        ]

-- an edge that is tight against neither moment leaves
pub loose_exact : (old new : List (Option Node)) (key : ℕ) (low high : List ℕ) → AreExact (arcs_of old) low high
    → ((k : ℕ) (n : Node) → k ≢ key → slice_index_or old k None ≡ Some n → (m : Node) × (slice_index_or new k None ≡ Some m) × (m.arc ≡ n.arc))
    → ((k : ℕ) (m : Node) → slice_index_or new k None ≡ Some m → (n : Node) × (slice_index_or old k None ≡ Some n) × (m.arc ≡ n.arc))
    → ((n : Node) → slice_index_or old key None ≡ Some n → (n.arc.from ≡ 0) ⊎ (moment low n.arc.to <ℤ (moment low n.arc.from +ℤ n.arc.weight)))
    → ((n : Node) → slice_index_or old key None ≡ Some n → (n.arc.to ≡ 0) ⊎ (moment high n.arc.to <ℤ (moment high n.arc.from +ℤ n.arc.weight)))
    → AreExact (arcs_of new) low high
loose_exact old new key low high e forth back loose_low loose_high = record {
  len = e.len;
  least = record {
    solution = fewer (moment low) e.least.solution;
    least = λ t s x within. held_low old new key low (λ _. 0) t e.least (λ k n ne is. (let h = forth k n ne is in subst (MeetsArc t) h.2 (key_met new t k h.0 h.1 s))) s.0
        (λ k n ne is tight later some. absurd (omega (arith, some)))
        (λ n is. elim (loose_low n is) [ inl z ↦ inl z | inr sl ↦ inr (inl sl) ])
        x within refl;
  };
  greatest = record {
    solution = fewer (moment high) e.greatest.solution;
    greatest = λ t s x within. held_high old new key high (λ _. 0) t e.greatest (λ k n ne is. (let h = forth k n ne is in subst (MeetsArc t) h.2 (key_met new t k h.0 h.1 s))) s.0
        (λ k n ne is tight later some. absurd (omega (arith, some)))
        (λ n is. elim (loose_high n is) [ inl z ↦ inl z | inr sl ↦ inr (inl sl) ])
        x within refl;
  };
}
  where
    fewer : (t : ℕ → ℤ) → IsSolution (arcs_of old) t → IsSolution (arcs_of new) t
    fewer t s = solution_by_key new t s.0 (λ k m is. (let h = back k m is in subst (MeetsArc t) (sym h.2) (key_met old t k h.0 h.1 s)))

-- what was held is worked out anew without the edge
module _ (old mid : List (Option Node)) (key : ℕ) (n : Node) (low high low' high' : List ℕ)
    (e : AreExact (arcs_of old) low high)
    (here : slice_index_or old key None ≡ Some n)
    (others : (k : ℕ) → k ≢ key → slice_index_or mid k None ≡ slice_index_or old k None)
    (l : IsLowered (arcs_of mid) low n.arc low')
    (h : IsHeightened (arcs_of mid) high n.arc high')
  where
    is_n : (x : Node) → slice_index_or old key None ≡ Some x → n ≡ x
    is_n x is = let both : Some n ≡ Some x = sym here ∙ is in let it : n ≡ x = cc in it

    still : (t : ℕ → ℤ) → IsSolution (arcs_of mid) t → (k : ℕ) (x : Node) → k ≢ key → slice_index_or old k None ≡ Some x → MeetsArc t x.arc
    still t s k x ne is = key_met mid t k x (others k ne ∙ is) s

    pub renewed_exact : AreExact (arcs_of mid) low' high'
    renewed_exact = record {
      len = l.len ∙ (e.len ∙ sym h.len);
      least = record {
        solution = l.solution;
        least = λ t s x within. l.least t s
            (λ y inside free. held_low old mid key low l.marks t e.least (still t s) s.0
            (λ k a ne is tight later some. (let at = arc_is mid k a (others k ne ∙ is) in
            subst (λ (b : Arc). 0 < l.marks b.from) at.1
            (l.follows k at.0 (subst (λ (b : Arc). moment low b.to ≡ (moment low b.from +ℤ b.weight)) (sym at.1) tight) (subst (λ (b : Arc). 0 < l.marks b.to) (sym at.1) some))))
            (λ x is. subst (λ (y : Node). (y.arc.from ≡ 0) ⊎ ((moment low y.arc.to <ℤ (moment low y.arc.from +ℤ y.arc.weight)) ⊎ (0 < l.marks y.arc.from))) (is_n x is) l.begins)
            y inside free)
            x (let q = l.len in omega (arith, within, q));
      };
      greatest = record {
        solution = h.solution;
        greatest = λ t s x within. h.greatest t s
            (λ y inside free. held_high old mid key high h.marks t e.greatest (still t s) s.0
            (λ k a ne is tight later some. (let at = arc_is mid k a (others k ne ∙ is) in
            subst (λ (b : Arc). 0 < h.marks b.to) at.1
            (h.follows k at.0 (subst (λ (b : Arc). moment high b.to ≡ (moment high b.from +ℤ b.weight)) (sym at.1) tight) (subst (λ (b : Arc). 0 < h.marks b.from) (sym at.1) some))))
            (λ x is. subst (λ (y : Node). (y.arc.to ≡ 0) ⊎ ((moment high y.arc.to <ℤ (moment high y.arc.from +ℤ y.arc.weight)) ⊎ (0 < h.marks y.arc.to))) (is_n x is) h.ends)
            y inside free)
            x (let q = h.len in omega (arith, within, q));
      };
    }
