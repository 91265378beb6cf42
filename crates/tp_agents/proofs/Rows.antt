-- Intervals that are worked out one after another, and the ends of each by one bound after another.
use Rattle.std.proofs.Common.{◌≡◌, ℕ, ◌+◌, ◌<◌, ◌≤◌, inl, inr, max, min, Bool, true, false, cond, nat_eq, List, [], ◌∷◌, ◌++◌, length, take, drop, get_or, Option, Some, None, pos, ◌+ℤ◌, ◌-ℤ◌, sym, ap, subst, ◌∙◌, arith}
use Rattle.std.proofs.lemmas.Bool.{cases_order, cond-true, cond-false, eq-eqb, ne_eqb}
use Rattle.std.proofs.lemmas.List.{get_or_push, get_or_append_left, get_or_past, length_push, take-append-le, take_at, at_drop_more}
use Rattle.tp_bounds.specs.Certificates.{moments_of}
use Rattle.tp_agents.specs.declared.crosses.CrossBound.{CrossBound}
use Rattle.tp_agents.specs.Crosses.{is_interface}
use Rattle.tp_agents.specs.Intervals.{end_or, begins, ends, moment_from, low_of, high_of, interval_of}
use Rattle.tp_agents.proofs.Ends.{high_in_time}

-- ---- one bound more

low_here : (last : ℕ → ℕ) (e : ℕ) (cs : List CrossBound) (i : ℕ) (d : CrossBound) → i < length cs → low_of (drop i cs) last e ≡ cond (nat_eq (get_or cs i d).from e) (max (moment_from (pos (last (get_or cs i d).to) -ℤ (get_or cs i d).w)) (low_of (drop (i + 1) cs) last e)) (low_of (drop (i + 1) cs) last e)
low_here last e cs i d lt = at_drop_more (λ (l : List CrossBound). low_of l last e) cs i d lt

pub low_more : (last : ℕ → ℕ) (e : ℕ) (cs : List CrossBound) (i low : ℕ) (d : CrossBound) (m new : ℕ) → i < length cs → (get_or cs i d).from ≡ e → m ≡ moment_from (pos (last (get_or cs i d).to) -ℤ (get_or cs i d).w) → new ≡ max m low → max low (low_of (drop i cs) last e) ≡ low_of cs last e → max new (low_of (drop (i + 1) cs) last e) ≡ low_of cs last e
low_more last e cs i low d m new lt at is made h =
    let b : CrossBound = get_or cs i d in
    let here : low_of (drop i cs) last e ≡ max (moment_from (pos (last b.to) -ℤ b.w)) (low_of (drop (i + 1) cs) last e) = low_here last e cs i d lt ∙ cond-true (nat_eq b.from e) _ _ (eq-eqb b.from e at) in
    omega arith

pub low_same : (last : ℕ → ℕ) (e : ℕ) (cs : List CrossBound) (i low : ℕ) (d : CrossBound) (new : ℕ) → i < length cs → ((get_or cs i d).from ≡ e → ⊥) → new ≡ low → max low (low_of (drop i cs) last e) ≡ low_of cs last e → max new (low_of (drop (i + 1) cs) last e) ≡ low_of cs last e
low_same last e cs i low d new lt at made h =
    let b : CrossBound = get_or cs i d in
    let here : low_of (drop i cs) last e ≡ low_of (drop (i + 1) cs) last e = low_here last e cs i d lt ∙ cond-false (nat_eq b.from e) _ _ (ne_eqb b.from e at) in
    omega arith

high_here : (horizon : ℕ) (first : ℕ → ℕ) (e : ℕ) (cs : List CrossBound) (i : ℕ) (d : CrossBound) → i < length cs → high_of horizon (drop i cs) first e ≡ cond (nat_eq (get_or cs i d).to e) (min (moment_from (pos (first (get_or cs i d).from) +ℤ (get_or cs i d).w)) (high_of horizon (drop (i + 1) cs) first e)) (high_of horizon (drop (i + 1) cs) first e)
high_here horizon first e cs i d lt = at_drop_more (λ (l : List CrossBound). high_of horizon l first e) cs i d lt

pub high_more : (horizon : ℕ) (first : ℕ → ℕ) (e : ℕ) (cs : List CrossBound) (i high : ℕ) (d : CrossBound) (m new : ℕ) → i < length cs → (get_or cs i d).to ≡ e → m ≡ moment_from (pos (first (get_or cs i d).from) +ℤ (get_or cs i d).w) → new ≡ min m high → min high (high_of horizon (drop i cs) first e) ≡ high_of horizon cs first e → min new (high_of horizon (drop (i + 1) cs) first e) ≡ high_of horizon cs first e
high_more horizon first e cs i high d m new lt at is made h =
    let b : CrossBound = get_or cs i d in
    let here : high_of horizon (drop i cs) first e ≡ min (moment_from (pos (first b.from) +ℤ b.w)) (high_of horizon (drop (i + 1) cs) first e) = high_here horizon first e cs i d lt ∙ cond-true (nat_eq b.to e) _ _ (eq-eqb b.to e at) in
    omega arith

pub high_same : (horizon : ℕ) (first : ℕ → ℕ) (e : ℕ) (cs : List CrossBound) (i high : ℕ) (d : CrossBound) (new : ℕ) → i < length cs → ((get_or cs i d).to ≡ e → ⊥) → new ≡ high → min high (high_of horizon (drop i cs) first e) ≡ high_of horizon cs first e → min new (high_of horizon (drop (i + 1) cs) first e) ≡ high_of horizon cs first e
high_same horizon first e cs i high d new lt at made h =
    let b : CrossBound = get_or cs i d in
    let here : high_of horizon (drop i cs) first e ≡ high_of horizon (drop (i + 1) cs) first e = high_here horizon first e cs i d lt ∙ cond-false (nat_eq b.to e) _ _ (ne_eqb b.to e at) in
    omega arith

-- ---- one interval more

end_in_time : (horizon low high m : ℕ) (t : Bool) → high ≤ horizon → m ≤ horizon → end_or (cond t (Some (low, high)) None) m ≤ horizon
end_in_time horizon low high m true p q = p
end_in_time horizon low high m false p q = q

module _ (horizon : ℕ) (cs : List CrossBound) (least : List ℕ) (xs ys : List (Option (ℕ × ℕ))) (e : ℕ) (next : Option (ℕ × ℕ)) (count : length xs ≡ e) (is : ys ≡ xs ++ next ∷ []) (gives : next ≡ interval_of horizon cs least xs e) where
  here : get_or ys e None ≡ next
  here = ap (λ (l : List (Option (ℕ × ℕ))). get_or l e None) is ∙ get_or_push xs next None e count

  before : (d : ℕ) → d < e → get_or ys d None ≡ get_or xs d None
  before d lt = ap (λ (l : List (Option (ℕ × ℕ))). get_or l d None) is ∙ get_or_append_left xs (next ∷ []) None d (omega arith)

  more : length ys ≡ e + 1
  more = ap length is ∙ (length_push xs next ∙ ap (λ n. n + 1) count)

  pub more_in_time : ((d : ℕ) → moments_of least d ≤ horizon) → ((d : ℕ) → ends xs least d ≤ horizon) → (d : ℕ) → ends ys least d ≤ horizon
  more_in_time within old d =
      elim (cases_order d e) [
        | inl at ↦
            let lo : ℕ = low_of cs (ends xs least) e in
            let hi : ℕ = high_of horizon cs (begins xs least) e in
            let new : get_or ys d None ≡ cond (is_interface cs e) (Some (lo, hi)) None = ap (λ k. get_or ys k None) at ∙ (here ∙ gives) in
            subst (λ o. end_or o (moments_of least d) ≤ horizon) (sym new) (end_in_time horizon lo hi (moments_of least d) (is_interface cs e) (high_in_time horizon (begins xs least) e cs) (within d))
        | inr o ↦ elim o [
          | inl lt ↦ subst (λ o. end_or o (moments_of least d) ≤ horizon) (sym (before d lt)) (old d)
          | inr gt ↦ subst (λ o. end_or o (moments_of least d) ≤ horizon) (sym (get_or_past ys d None (omega (arith, more)))) (within d)
        ]
      ]

  pub more_each : ((d : ℕ) → d < e → get_or xs d None ≡ interval_of horizon cs least (take d xs) d) → (d : ℕ) → d < e + 1 → get_or ys d None ≡ interval_of horizon cs least (take d ys) d
  more_each old d lt =
      elim (cases_order d e) [
        | inl at ↦
            let front : take d ys ≡ xs = ap (λ (l : List (Option (ℕ × ℕ))). take d l) is ∙ take_at xs (next ∷ []) d (count ∙ sym at) in
            ap (λ k. get_or ys k None) at ∙ (here ∙ (gives ∙ (ap (interval_of horizon cs least xs) (sym at) ∙ ap (λ (l : List (Option (ℕ × ℕ))). interval_of horizon cs least l d) (sym front))))
        | inr o ↦ elim o [
          | inl less ↦
              let front : take d ys ≡ take d xs = ap (λ (l : List (Option (ℕ × ℕ))). take d l) is ∙ take-append-le d xs (next ∷ []) (omega arith) in
              before d less ∙ (old d less ∙ ap (λ (l : List (Option (ℕ × ℕ))). interval_of horizon cs least l d) (sym front))
          | inr gt ↦ absurd (let f : ⊥ = omega arith in f)
        ]
      ]
