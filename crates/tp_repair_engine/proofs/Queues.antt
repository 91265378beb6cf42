-- What a queue keeps when a point is taken from it, settled, or offered more.
use Rattle.std.proofs.Common.{◌≡◌, ◌≢◌, ℕ, ◌<◌, ◌≤◌, List, ◌∷◌, length, refl, sym, ◌∙◌, ap, subst, inl, inr, ◌⊎◌, arith, suc, zero}
use Rattle.std.specs.Prelude.{All, Contains, slice_index_or}
use Rattle.std.specs.Ordering.{nat_cmp}
use Rattle.std.specs.List.Sorted.{IsPermutation}
use Rattle.std.specs.BinaryHeap.{IsHeap, IsUpperBound}
use Rattle.std.proofs.lemmas.List.Sorted.{IsPermutation-sym, All-permutation, Contains-permutation, first_le_from_greatest}
use Rattle.std.proofs.lemmas.List.Elements.{All-contains, All-tail, All-cons}
use Rattle.tp_net.specs.Links.{IsNext}
use Rattle.tp_net.proofs.Spreads.{same_or, below_or}
use Rattle.tp_repair_engine.specs.Queue.{IsQueue, IsQueueBut, by_amount}

contains_at : (y : ℕ × ℕ) (ys : List (ℕ × ℕ)) (x : ℕ × ℕ) (k : ℕ) → k < length (y ∷ ys) → slice_index_or (y ∷ ys) k x ≡ x → (y ≡ x) ⊎ Contains ys x
contains_at y ys x zero within is = inl is
contains_at y ys x (suc k) within is = inr (k, omega (arith, within), is)

contains_cases : (y : ℕ × ℕ) (ys : List (ℕ × ℕ)) (x : ℕ × ℕ) → Contains (y ∷ ys) x → (y ≡ x) ⊎ Contains ys x
contains_cases y ys x c = contains_at y ys x c.0 c.1 c.2

contains_later : (y : ℕ × ℕ) (ys : List (ℕ × ℕ)) (x : ℕ × ℕ) → Contains ys x → Contains (y ∷ ys) x
contains_later y ys x c = (suc c.0, omega (arith, c.1), c.2)

contains_first : (y : ℕ × ℕ) (ys : List (ℕ × ℕ)) → Contains (y ∷ ys) y
contains_first y ys = (0, omega arith, refl)

pair_eq : (v w f : ℕ) → v ≡ w → ◌≡◌ {A = ℕ × ℕ} (v, f) (w, f)
pair_eq v w f e = subst (λ z. ◌≡◌ {A = ℕ × ℕ} (v, f) (z, f)) e refl

-- an entry was taken
module _ (points : ℕ) (g r : ℕ → ℕ) (old new : List (ℕ × ℕ)) (a x : ℕ)
    (q : IsQueue points g r old)
    (same : IsPermutation old ((a, x) ∷ new))
    (keeps : IsHeap by_amount old → IsHeap by_amount new × IsUpperBound by_amount (a, x) old)
  where
    was_in : Contains old (a, x)
    was_in = Contains-permutation ((a, x) ∷ new) old (a, x) (IsPermutation-sym old ((a, x) ∷ new) same) (contains_first (a, x) new)

    pub taken_within : x < points
    taken_within = All-contains (λ (e : ℕ × ℕ). e.1 < points) old (a, x) q.within was_in

    taken_had : a ≤ g x
    taken_had = All-contains (λ (e : ℕ × ℕ). e.0 ≤ g e.1) old (a, x) q.had was_in

    within_left : All (λ (e : ℕ × ℕ). e.1 < points) new
    within_left = All-tail (λ (e : ℕ × ℕ). e.1 < points) (a, x) new (All-permutation (λ (e : ℕ × ℕ). e.1 < points) old ((a, x) ∷ new) same q.within)

    had_left : All (λ (e : ℕ × ℕ). e.0 ≤ g e.1) new
    had_left = All-tail (λ (e : ℕ × ℕ). e.0 ≤ g e.1) (a, x) new (All-permutation (λ (e : ℕ × ℕ). e.0 ≤ g e.1) old ((a, x) ∷ new) same q.had)

    waits_left : (y : ℕ) → r y ≡ 0 → 0 < g y → (◌≡◌ {A = ℕ × ℕ} (a, x) (g y, y)) ⊎ Contains new (g y, y)
    waits_left y unsettled some = contains_cases (a, x) new (g y, y) (Contains-permutation old ((a, x) ∷ new) (g y, y) same (q.waits y unsettled some))

    most : (y : ℕ) → r y ≡ 0 → g y ≤ a
    most y unsettled =
        elim (below_or 0 (g y)) [
          | inl some ↦ All-contains (λ (e : ℕ × ℕ). e.0 ≤ a) old (g y, y) (first_le_from_greatest nat_cmp (a, x) old (keeps q.heap).1) (q.waits y unsettled some)
          | inr none ↦ omega (arith, none)
        ]

    -- it is the next point
    pub taken_next : r x ≡ 0 → 0 < a → IsNext g r x
    taken_next unsettled some = record {
      unsettled = unsettled;
      positive = (let h = taken_had in omega (arith, h, some));
      most = λ y open_y. (let h = taken_had in let k = most y open_y in omega (arith, h, k));
    }

    pub taken_but : IsQueueBut x points g r new
    taken_but = record {
      heap = (keeps q.heap).0;
      within = within_left;
      had = had_left;
      waits = λ y ne unsettled some.
          elim (waits_left y unsettled some) [
            | inl same_entry ↦ (let e : x ≡ y = ap (λ (p : ℕ × ℕ). p.1) same_entry in absurd (ne (sym e)))
            | inr left ↦ left
          ];
    }

    -- or it is passed over
    pub taken_passed : (r x ≡ 0 → 0 < a → ⊥) → IsQueue points g r new
    taken_passed idle = record {
      heap = (keeps q.heap).0;
      within = within_left;
      had = had_left;
      waits = λ y unsettled some.
          elim (waits_left y unsettled some) [
            | inl same_entry ↦
                let e : x ≡ y = ap (λ (p : ℕ × ℕ). p.1) same_entry in
                let f : a ≡ g y = ap (λ (p : ℕ × ℕ). p.0) same_entry in
                absurd (idle (ap r e ∙ unsettled) (omega (arith, f, some)))
            | inr left ↦ left
          ];
    }

-- a point is offered more
pub queue_offered : (f v points : ℕ) (g g' r : ℕ → ℕ) (old new : List (ℕ × ℕ)) → IsQueue points g r old
    → f < points → g f ≤ v → g' f ≡ v → ((x : ℕ) → x ≢ f → g' x ≡ g x)
    → IsPermutation ((v, f) ∷ old) new → (IsHeap by_amount old → IsHeap by_amount new)
    → IsQueue points g' r new
queue_offered f v points g g' r old new q within more here there same keeps = record {
  heap = keeps q.heap;
  within = All-permutation (λ (e : ℕ × ℕ). e.1 < points) ((v, f) ∷ old) new same (All-cons (λ (e : ℕ × ℕ). e.1 < points) (v, f) old within q.within);
  had = All-permutation (λ (e : ℕ × ℕ). e.0 ≤ g' e.1) ((v, f) ∷ old) new same
      (All-cons (λ (e : ℕ × ℕ). e.0 ≤ g' e.1) (v, f) old (omega (arith, here)) (λ k d inside. (let h = q.had k d inside in let up = raised (slice_index_or old k d).1 in omega (arith, h, up))));
  waits = λ x unsettled some.
      elim (same_or x f) [
        | inl e ↦
            let a : ◌≡◌ {A = ℕ × ℕ} (v, f) (g' x, x) = subst (λ z. ◌≡◌ {A = ℕ × ℕ} (v, f) (g' z, z)) (sym e) (pair_eq v (g' f) f (sym here)) in
            subst (λ p. Contains new p) a (Contains-permutation ((v, f) ∷ old) new (v, f) same (contains_first (v, f) old))
        | inr ne ↦
            let a : g' x ≡ g x = there x ne in
            let c = q.waits x unsettled (omega (arith, a, some)) in
            subst (λ w. Contains new (w, x)) (sym a) (Contains-permutation ((v, f) ∷ old) new (g x, x) same (contains_later (v, f) old (g x, x) c))
      ];
}
  where
    raised : (x : ℕ) → g x ≤ g' x
    raised x =
        elim (same_or x f) [
          | inl e ↦ (let a : g x ≡ g f = ap g e in let b : g' x ≡ g' f = ap g' e in omega (arith, a, b, here, more))
          | inr ne ↦ (let a : g' x ≡ g x = there x ne in omega (arith, a))
        ]
