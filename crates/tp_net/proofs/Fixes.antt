-- An event is fixed: the edges by its moment are between the same points as its floor and its end were, and as tight.
use Rattle.std.proofs.Common.{◌≡◌, ◌≢◌, ℕ, suc, ◌<◌, ◌≤◌, inl, inr, Bool, true, false, cond, nat_eq, List, [], ◌∷◌, ◌++◌, length, map, get_or, Some, None, refl, sym, ap, subst, ◌∙◌, arith, get_or-set_same, get_or-set_other, ◌-◌}
use Prim.Native.Nat.{max}
use Rattle.std.proofs.Math.ListN.{length-set}
use Rattle.std.specs.Prelude.{All, pos, ◌-ℤ◌, ◌≤ℤ◌}
use Rattle.std.specs.Option.{option_map}
use Rattle.std.proofs.lemmas.Int.{ints}
use Rattle.std.proofs.lemmas.Bool.Decides.{nat_tests}
use Rattle.tp_bounds.specs.declared.Bound.{Bound}
use Rattle.tp_bounds.specs.declared.Edge.{Edge}
use Rattle.tp_bounds.specs.declared.Edge.TheVariants.{Own, New, PastHigh, PastLow, Now, End}
use Rattle.tp_bounds.specs.Setting.{Setting, event_count, fixed_at, floor_of}
use Rattle.tp_bounds.specs.Changes.{with_fixed}
use Rattle.tp_bounds.specs.Reasons.{bound_of, at_least, at_most, is_open}
use Rattle.tp_bounds.proofs.Chains.{from_cond, from_map, opened}
use Rattle.tp_net.proofs.Laws as laws
use Rattle.tp_net.proofs.Laws.{set_mapped, still_open}
use Rattle.tp_net.specs.declared.slacks.Arc.{Arc}
use Rattle.tp_net.specs.Graph.{IsSolution, moment}
use Rattle.tp_net.proofs.Spreads.{same_or}
use Rattle.tp_net.specs.Faults.{IsPastOf, Refutes}
use Rattle.tp_net.specs.Arcs.{number_of, arc_of, name_at, AreArcs, Stand, past_name, past_arc, AreNamesPast, AreArcsPast, NamesCycle}
use Rattle.tp_net.specs.Kept.{IsFit, IsKept}
use Rattle.tp_net.specs.Moments.{AreExact, IsStart}
use Rattle.tp_net.specs.Slacks.{JoinsPoints}
use Rattle.tp_net.proofs.Listings.{schedule_back, events_of, agree_list, now_edge, end_edge, high_edge, low_edge}
use Rattle.tp_net.proofs.Reasons.{reason_of, stand_more, first_named}
use Rattle.tp_net.proofs.KeptMoments.{kept_among}
use Rattle.tp_net.proofs.Starts.{start}
use Rattle.tp_net.proofs.BoxSound.{has_point_fixed}

-- an edge of the setting that is asked for, as tight as b and between the same points
abbrev pub IsAsTight : Setting → Edge → Bound → Type 0
IsAsTight asked f b = (c : Bound) × (bound_of asked f ≡ Some c) × (c.from ≡ b.from) × (c.to ≡ b.to) × (c.w ≤ℤ b.w)

-- between two solutions lies another
pub between_solution : (arcs : List Arc) (low high known : List ℕ) (back : ℕ) → 0 < length low → All (JoinsPoints (length low)) arcs → IsSolution arcs (moment low) → IsSolution arcs (moment high)
    → ((x : ℕ) → x < length low → get_or known x 0 ≡ max (get_or low x 0) (get_or high x 0 - back)) → IsSolution arcs (moment known)
between_solution arcs low high known back some among l h each = (
  (let here = each 0 some in let a = l.0 in let b = h.0 in omega (arith, ints, here, a, b)),
  λ j d within.
      (let a = l.1 j d within in
      let b = h.1 j d within in
      let ends = among j d within in
      let p = each (get_or arcs j d).from ends.0 in
      let q = each (get_or arcs j d).to ends.1 in
      omega (arith, ints, a, b, p, q)),
)

module _ (s : Setting) (e m : ℕ) (lt : e < event_count s) (free : fixed_at s e ≡ None) (floor : floor_of s e ≤ m) (soon : m ≤ s.horizon)
  where
    now_is : fixed_at (with_fixed s e m) e ≡ Some m
    now_is = get_or-set_same s.fixed e (Some m) None lt

    pub tight_fixed : (f : Edge) (b : Bound) → bound_of s f ≡ Some b → IsAsTight (with_fixed s e m) (past_name e f) b
    tight_fixed (Own id) b h = (b, h, refl, refl, omega (arith, ints))
    tight_fixed New b h = (b, h, refl, refl, omega (arith, ints))
    tight_fixed (PastHigh k) b h = (b, set_mapped (at_most k) s.fixed e k m b free h, refl, refl, omega (arith, ints))
    tight_fixed (PastLow k) b h = (b, set_mapped (at_least k) s.fixed e k m b free h, refl, refl, omega (arith, ints))
    tight_fixed (Now k) b h =
        let p = from_cond (is_open s k) (at_least k (floor_of s k)) b h in
        elim (same_or k e) [
          | inl same ↦
              (let test : nat_eq k e ≡ true = grind (arith, nat_tests, same) in
              let at : fixed_at (with_fixed s e m) k ≡ Some m = ap (fixed_at (with_fixed s e m)) same ∙ now_is in
              let w : pos 0 -ℤ pos (floor_of s k) ≡ b.w = ap (λ (c : Bound). c.w) p.1 in
              let level : floor_of s k ≡ floor_of s e = ap (floor_of s) same in
              (at_least k m, rw test (ap (option_map (at_least k)) at), ap (λ (c : Bound). c.from) p.1, ap (λ (c : Bound). c.to) p.1, omega (arith, ints, w, level, floor)))
          | inr ne ↦
              (let test : nat_eq k e ≡ false = grind (arith, nat_tests, ne) in
              let o : is_open (with_fixed s e m) k ≡ is_open s k = still_open s e k m ne in
              (b, rw (test, o) h, refl, refl, omega (arith, ints)))
        ]
    tight_fixed (End k) b h =
        let p = from_cond (is_open s k) (at_most k s.horizon) b h in
        elim (same_or k e) [
          | inl same ↦
              (let test : nat_eq k e ≡ true = grind (arith, nat_tests, same) in
              let at : fixed_at (with_fixed s e m) k ≡ Some m = ap (fixed_at (with_fixed s e m)) same ∙ now_is in
              let w : pos s.horizon ≡ b.w = ap (λ (c : Bound). c.w) p.1 in
              (at_most k m, rw test (ap (option_map (at_most k)) at), ap (λ (c : Bound). c.from) p.1, ap (λ (c : Bound). c.to) p.1, omega (arith, ints, w, soon)))
          | inr ne ↦
              (let test : nat_eq k e ≡ false = grind (arith, nat_tests, ne) in
              let o : is_open (with_fixed s e m) k ≡ is_open s k = still_open s e k m ne in
              (b, rw (test, o) h, refl, refl, omega (arith, ints)))
        ]

    pub stand_fixed : (names names' : List Edge) (arcs : List Arc) → AreArcs s names arcs → ((k : ℕ) → k < length arcs → name_at names' k ≡ past_name e (name_at names k)) → Stand (with_fixed s e m) names' arcs
    stand_fixed names names' arcs a renamed k within =
        let x = a.exist k within in
        let y = tight_fixed (name_at names k) x.0 x.1 in (
          y.0,
          ap (bound_of (with_fixed s e m)) (renamed k within) ∙ y.1,
          ap number_of y.2 ∙ sym (ap (λ (z : Arc). z.from) x.2),
          ap number_of y.3 ∙ sym (ap (λ (z : Arc). z.to) x.2),
          subst (λ (z : Arc). y.0.w ≤ℤ z.weight) (sym x.2) y.4,
        )

    -- ---- the edges of the setting in which it is fixed

    abbrev pub past_bound : Edge → Bound → Bound
    past_bound (Own id) b = b
    past_bound New b = b
    past_bound (PastHigh k) b = b
    past_bound (PastLow k) b = b
    past_bound (Now k) b = cond (nat_eq k e) (record { from = b.from; to = b.to; w = pos 0 -ℤ pos m }) b
    past_bound (End k) b = cond (nat_eq k e) (record { from = b.from; to = b.to; w = pos m }) b

    either_arc : (c : Bool) (x y : Bound) → cond c (arc_of x) (arc_of y) ≡ arc_of (cond c x y)
    either_arc true x y = refl
    either_arc false x y = refl

    pub past_arc_is : (f : Edge) (b : Bound) → past_arc e m f (arc_of b) ≡ arc_of (past_bound f b)
    past_arc_is (Own id) b = refl
    past_arc_is New b = refl
    past_arc_is (PastHigh k) b = refl
    past_arc_is (PastLow k) b = refl
    past_arc_is (Now k) b = either_arc (nat_eq k e) (record { from = b.from; to = b.to; w = pos 0 -ℤ pos m }) b
    past_arc_is (End k) b = either_arc (nat_eq k e) (record { from = b.from; to = b.to; w = pos m }) b

    at_event : (k : ℕ) → k ≡ e → fixed_at (with_fixed s e m) k ≡ Some m
    at_event k same = ap (fixed_at (with_fixed s e m)) same ∙ now_is

    pub moved_past : (f : Edge) (b : Bound) → bound_of s f ≡ Some b → bound_of (with_fixed s e m) (past_name e f) ≡ Some (past_bound f b)
    moved_past (Own id) b h = h
    moved_past New b h = h
    moved_past (PastHigh k) b h = set_mapped (at_most k) s.fixed e k m b free h
    moved_past (PastLow k) b h = set_mapped (at_least k) s.fixed e k m b free h
    moved_past (Now k) b h =
        let p = from_cond (is_open s k) (at_least k (floor_of s k)) b h in
        elim (same_or k e) [
          | inl same ↦
              (let test : nat_eq k e ≡ true = grind (arith, nat_tests, same) in
              let low : option_map (at_least k) (fixed_at (with_fixed s e m) k) ≡ Some (at_least k m) = ap (option_map (at_least k)) (at_event k same) in
              rw test (low ∙ ap (λ (c : Bound). Some (record { from = c.from; to = c.to; w = pos 0 -ℤ pos m })) p.1))
          | inr ne ↦
              (let test : nat_eq k e ≡ false = grind (arith, nat_tests, ne) in
              let o : is_open (with_fixed s e m) k ≡ is_open s k = still_open s e k m ne in
              rw (test, o) h)
        ]
    moved_past (End k) b h =
        let p = from_cond (is_open s k) (at_most k s.horizon) b h in
        elim (same_or k e) [
          | inl same ↦
              (let test : nat_eq k e ≡ true = grind (arith, nat_tests, same) in
              let high : option_map (at_most k) (fixed_at (with_fixed s e m) k) ≡ Some (at_most k m) = ap (option_map (at_most k)) (at_event k same) in
              rw test (high ∙ ap (λ (c : Bound). Some (record { from = c.from; to = c.to; w = pos m })) p.1))
          | inr ne ↦
              (let test : nat_eq k e ≡ false = grind (arith, nat_tests, ne) in
              let o : is_open (with_fixed s e m) k ≡ is_open s k = still_open s e k m ne in
              rw (test, o) h)
        ]

    -- the edge that was in the place of f
    abbrev pub Was : Edge → Type 0
    Was f = (g : Edge) × (b : Bound) × (bound_of s g ≡ Some b) × (past_name e g ≡ f)

    still_free : (k : ℕ) → is_open (with_fixed s e m) k ≡ true → k ≢ e
    still_free k o same =
        let none = (opened (with_fixed s e m) k o).1 in
        let f : Some m ≡ None = sym (at_event k same) ∙ none in
        let g : ⊥ = cc in g

    pub was : (f : Edge) (c : Bound) → bound_of (with_fixed s e m) f ≡ Some c → Was f
    was (Own id) c h = (Own id, c, h, refl)
    was New c h = (New, c, h, refl)
    was (PastHigh k) c h =
        let p = from_map (at_most k) (fixed_at (with_fixed s e m) k) c h in
        elim (same_or k e) [
          | inl same ↦
              (let test : nat_eq k e ≡ true = grind (arith, nat_tests, same) in
              (End k, at_most k s.horizon, end_edge s k (subst (λ j. j < event_count s) (sym same) lt) (ap (fixed_at s) same ∙ free), rw test refl))
          | inr ne ↦ (PastHigh k, at_most k p.0, high_edge s k p.0 (sym (get_or-set_other s.fixed e k (Some m) None ne) ∙ p.1), refl)
        ]
    was (PastLow k) c h =
        let p = from_map (at_least k) (fixed_at (with_fixed s e m) k) c h in
        elim (same_or k e) [
          | inl same ↦
              (let test : nat_eq k e ≡ true = grind (arith, nat_tests, same) in
              (Now k, at_least k (floor_of s k), now_edge s k (subst (λ j. j < event_count s) (sym same) lt) (ap (fixed_at s) same ∙ free), rw test refl))
          | inr ne ↦ (PastLow k, at_least k p.0, low_edge s k p.0 (sym (get_or-set_other s.fixed e k (Some m) None ne) ∙ p.1), refl)
        ]
    was (Now k) c h =
        let p = from_cond (is_open (with_fixed s e m) k) (at_least k (floor_of s k)) c h in
        let ne : k ≢ e = still_free k p.0 in
        let test : nat_eq k e ≡ false = grind (arith, nat_tests, ne) in
        let before = opened s k (sym (still_open s e k m ne) ∙ p.0) in
        (Now k, at_least k (floor_of s k), now_edge s k before.0 before.1, rw test refl)
    was (End k) c h =
        let p = from_cond (is_open (with_fixed s e m) k) (at_most k s.horizon) c h in
        let ne : k ≢ e = still_free k p.0 in
        let test : nat_eq k e ≡ false = grind (arith, nat_tests, ne) in
        let before = opened s k (sym (still_open s e k m ne) ∙ p.0) in
        (End k, at_most k s.horizon, end_edge s k before.0 before.1, rw test refl)

    pub listed_fixed : (names : List Edge) (arcs : List Arc) (names' : List Edge) (arcs' : List Arc) → AreArcs s names arcs → AreNamesPast e names names' → AreArcsPast e m names arcs arcs' → AreArcs (with_fixed s e m) names' arcs'
    listed_fixed names arcs names' arcs' a ns xs = record {
      len = ns.len ∙ (a.len ∙ sym xs.len);
      exist = λ k within.
          (let inside : k < length arcs = omega (arith, within, xs.len) in
          let x = a.exist k inside in (
            past_bound (name_at names k) x.0,
            ap (bound_of (with_fixed s e m)) (ns.each k (omega (arith, inside, a.len))) ∙ moved_past (name_at names k) x.0 x.1,
            xs.each k inside ∙ (ap (past_arc e m (name_at names k)) x.2 ∙ past_arc_is (name_at names k) x.0),
          ));
      all = λ f c has q.
          (let w = was f c has in
          let x = a.all w.0 w.1 w.2 tt in
          (x.0, omega (arith, x.1, xs.len), ns.each x.0 (omega (arith, x.1, a.len)) ∙ (ap (past_name e) x.2 ∙ w.3)));
    }

    pub fit_fixed : IsFit s → IsFit (with_fixed s e m)
    fit_fixed h = record {
      from = λ id b is. has_point_fixed s e m b.from (h.from id b is);
      to = λ id b is. has_point_fixed s e m b.to (h.to id b is);
      weight = h.weight;
      past = λ k n is.
          (elim (same_or k e) [
            | inl same ↦ (let f : Some m ≡ Some n = sym (at_event k same) ∙ is in let g : m ≡ n = cc in omega (arith, g, soon))
            | inr ne ↦ h.past k n (sym (get_or-set_other s.fixed e k (Some m) None ne) ∙ is)
          ]);
      lags = h.lags ∙ sym (length-set s.fixed e (Some m));
      lag = h.lag;
      events = subst (λ n. n ≤ 1024) (sym (length-set s.fixed e (Some m))) h.events;
      horizon = h.horizon;
      in_time = h.in_time;
      asks_nothing = h.asks_nothing;
    }

    -- ---- it can't be fixed

    pub refused_fix : (names : List Edge) (arcs : List Arc) (low high : List ℕ) (names' : List Edge) (first : Edge) (b : Bound) (edges : List Edge)
        → IsKept s names arcs low high → AreNamesPast e names names' → IsPastOf e first → bound_of (with_fixed s e m) first ≡ Some b → NamesCycle names' arcs first (arc_of b) edges
        → Refutes (IsPastOf e) (with_fixed s e m) (with_fixed s e m) edges
    refused_fix names arcs low high names' first b edges k ns brings is h =
        let len : length names' ≡ length arcs = ns.len ∙ k.listed.len in
        let stand = stand_more (with_fixed s e m) names' arcs first b (stand_fixed names names' arcs k.listed (λ j within. ns.each j (omega (arith, within, k.listed.len)))) len is in
        subst (λ es. Refutes (IsPastOf e) (with_fixed s e m) (with_fixed s e m) es) (sym h.2)
        (laws.refutes (IsPastOf e) (with_fixed s e m) (map (name_at (names' ++ first ∷ [])) h.0)
        (reason_of (with_fixed s e m) (names' ++ first ∷ []) (arcs ++ arc_of b ∷ []) stand h.0 h.1.negative)
        (first_named (IsPastOf e) names' first arcs (arc_of b) h.0 len brings h.1))

    pub past_low : bound_of (with_fixed s e m) (PastLow e) ≡ Some (at_least e m)
    past_low = low_edge (with_fixed s e m) e m now_is

    pub past_high : bound_of (with_fixed s e m) (PastHigh e) ≡ Some (at_most e m)
    past_high = high_edge (with_fixed s e m) e m now_is

    -- ---- it is fixed

    module _ (names : List Edge) (arcs : List Arc) (low high : List ℕ) (names' : List Edge) (arcs' : List Arc)
        (k : IsKept s names arcs low high) (ns : AreNamesPast e names names') (xs : AreArcsPast e m names arcs arcs')
      where
        pub start_fixed : (known : List ℕ) (back amount : ℕ) → length known ≡ length low → ((x : ℕ) → x < length low → get_or known x 0 ≡ max (get_or low x 0) (get_or high x 0 - back))
            → back ≡ get_or high (suc e) 0 - m → get_or low (suc e) 0 ≤ m → m ≤ get_or high (suc e) 0 → amount ≡ suc s.horizon → IsStart arcs' known amount
        start_fixed known back amount len each back_is above below is =
            let solution : IsSolution arcs (moment known) =
            between_solution arcs low high known back (omega (arith, k.points)) (kept_among s names arcs low high k) k.exact.least.solution k.exact.greatest.solution each in
            let at : events_of known e ≡ m = (let here = each (suc e) (omega (arith, lt, k.points)) in omega (arith, here, back_is, above, below)) in
            start (with_fixed s e m) names' arcs' known amount (fit_fixed k.fit) (listed_fixed names arcs names' arcs' k.listed ns xs) (let o = solution.0 in omega (arith, ints, o))
            (laws.dispatched s e m (events_of known) (schedule_back s names arcs k.listed (moment known) (events_of known) (agree_list arcs known solution) solution) lt at)
            (omega (arith, len, k.points, length-set s.fixed e (Some m))) is

        pub kept_fixed : (low' high' : List ℕ) → length low' ≡ length low → AreExact arcs' low' high' → IsKept (with_fixed s e m) names' arcs' low' high'
        kept_fixed low' high' len exact = record {
          fit = fit_fixed k.fit;
          listed = listed_fixed names arcs names' arcs' k.listed ns xs;
          exact = exact;
          points = omega (arith, len, k.points, length-set s.fixed e (Some m));
        }
