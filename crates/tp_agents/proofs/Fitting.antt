-- Intervals that come one after another fit, and hold the least schedule.
use Rattle.std.proofs.Common.{◌≡◌, ℕ, zero, suc, ◌+◌, ◌≤◌, inl, inr, Bool, true, false, cond, List, [], length, take, get_or, Option, Some, None, ℤ, pos, ◌+ℤ◌, ◌-ℤ◌, ◌≤ℤ◌, refl, sym, ap, subst, ◌∙◌, arith}
use Rattle.std.proofs.lemmas.Int.{ints}
use Rattle.std.proofs.lemmas.Bool.{cases_eq, cases_order}
use Rattle.std.proofs.lemmas.List.{get_or-take, get_or_past, length-take, take_all}
use Rattle.tp_bounds.specs.Certificates.{moments_of}
use Rattle.tp_agents.specs.declared.crosses.CrossBound.{CrossBound}
use Rattle.tp_agents.specs.Crosses.{is_interface}
use Rattle.tp_agents.specs.Intervals.{begin_or, end_or, begins, ends, moment_from, low_of, high_of, AreIntervals}
use Rattle.tp_agents.proofs.InForce.{Among}
use Rattle.tp_agents.proofs.Ends.{low_meets, low_below, high_meets, high_above, high_in_time, moment_is, moment_at_least}

-- ---- one interval more

pub taken_other : (xs : List (Option (ℕ × ℕ))) (k e : ℕ) → (e ≡ k → ⊥) → get_or (take (k + 1) xs) e None ≡ get_or (take k xs) e None
taken_other xs k e ne =
    elim (cases_order e k) [
      | inl same ↦ absurd (ne same)
      | inr o ↦ elim o [
        | inl lt ↦ get_or-take (k + 1) xs e None (omega arith) ∙ sym (get_or-take k xs e None lt)
        | inr gt ↦ get_or_past (take (k + 1) xs) e None (omega (arith, length-take (k + 1) xs)) ∙ sym (get_or_past (take k xs) e None (omega (arith, length-take k xs)))
      ]
    ]

pub taken_here : (xs : List (Option (ℕ × ℕ))) (k : ℕ) → get_or (take (k + 1) xs) k None ≡ get_or xs k None
taken_here xs k = get_or-take (k + 1) xs k None (omega arith)

pub taken_before : (xs : List (Option (ℕ × ℕ))) (k e : ℕ) → k ≤ e → get_or (take k xs) e None ≡ None
taken_before xs k e le = get_or_past (take k xs) e None (omega (arith, length-take k xs))

-- ---- what the least schedule meets, and what the intervals so far do

pub record Starts (horizon : ℕ) (cs : List CrossBound) (least : List ℕ) : Type 0 where
  pub apart : (c : CrossBound) → Among c cs → c.from ≡ c.to → ⊥
  pub met : (c : CrossBound) → Among c cs → pos (moments_of least c.to) ≤ℤ (pos (moments_of least c.from) +ℤ c.w)
  pub in_time : (e : ℕ) → moments_of least e ≤ horizon

pub record Fits (horizon : ℕ) (cs : List CrossBound) (least : List ℕ) (intervals : List (Option (ℕ × ℕ))) : Type 0 where
  pub met : (c : CrossBound) → Among c cs → pos (ends intervals least c.to) ≤ℤ (pos (begins intervals least c.from) +ℤ c.w)
  pub low : (e : ℕ) → begins intervals least e ≤ moments_of least e
  pub high : (e : ℕ) → moments_of least e ≤ ends intervals least e
  pub in_time : (e : ℕ) → ends intervals least e ≤ horizon

begins_as : (least : List ℕ) (xs ys : List (Option (ℕ × ℕ))) (e : ℕ) → get_or ys e None ≡ get_or xs e None → begins ys least e ≡ begins xs least e
begins_as least xs ys e same = ap (λ o. begin_or o (moments_of least e)) same

ends_as : (least : List ℕ) (xs ys : List (Option (ℕ × ℕ))) (e : ℕ) → get_or ys e None ≡ get_or xs e None → ends ys least e ≡ ends xs least e
ends_as least xs ys e same = ap (λ o. end_or o (moments_of least e)) same

pub begins_some : (least : List ℕ) (xs : List (Option (ℕ × ℕ))) (e : ℕ) (i : ℕ × ℕ) → get_or xs e None ≡ Some i → begins xs least e ≡ i.0
begins_some least xs e i is = ap (λ o. begin_or o (moments_of least e)) is

pub ends_some : (least : List ℕ) (xs : List (Option (ℕ × ℕ))) (e : ℕ) (i : ℕ × ℕ) → get_or xs e None ≡ Some i → ends xs least e ≡ i.1
ends_some least xs e i is = ap (λ o. end_or o (moments_of least e)) is

pub begins_none : (least : List ℕ) (xs : List (Option (ℕ × ℕ))) (e : ℕ) → get_or xs e None ≡ None → begins xs least e ≡ moments_of least e
begins_none least xs e is = ap (λ o. begin_or o (moments_of least e)) is

pub ends_none : (least : List ℕ) (xs : List (Option (ℕ × ℕ))) (e : ℕ) → get_or xs e None ≡ None → ends xs least e ≡ moments_of least e
ends_none least xs e is = ap (λ o. end_or o (moments_of least e)) is

met_as : (n b n' b' : ℕ) (w : ℤ) → n' ≡ n → b' ≡ b → pos n ≤ℤ (pos b +ℤ w) → pos n' ≤ℤ (pos b' +ℤ w)
met_as n b n' b' w p q h = omega (arith, ints)

met_low : (n n' b' low : ℕ) (w : ℤ) → n' ≡ n → b' ≡ low → (pos n -ℤ w) ≤ℤ pos low → pos n' ≤ℤ (pos b' +ℤ w)
met_low n n' b' low w p q h = omega (arith, ints)

met_high : (n' b b' high : ℕ) (w : ℤ) → n' ≡ high → b' ≡ b → high ≤ moment_from (pos b +ℤ w) → pos (moment_from (pos b +ℤ w)) ≡ (pos b +ℤ w) → pos n' ≤ℤ (pos b' +ℤ w)
met_high n' b b' high w p q h is = omega (arith, ints)

turned : (n m : ℕ) (w : ℤ) → pos n ≤ℤ (pos m +ℤ w) → (pos n -ℤ w) ≤ℤ pos m
turned n m w h = omega (arith, ints)

not_below : (m : ℕ) (z : ℤ) → pos m ≤ℤ z → pos 0 ≤ℤ z
not_below m z h = omega (arith, ints)

module _ (horizon : ℕ) (cs : List CrossBound) (least : List ℕ) where
  fits_as : (xs ys : List (Option (ℕ × ℕ))) → ((e : ℕ) → get_or ys e None ≡ get_or xs e None) → Fits horizon cs least xs → Fits horizon cs least ys
  fits_as xs ys same f =
      record {
        met = λ c a. met_as _ _ _ _ c.w (ends_as least xs ys c.to (same c.to)) (begins_as least xs ys c.from (same c.from)) (f.met c a);
        low = λ e. omega (arith, begins_as least xs ys e (same e), f.low e);
        high = λ e. omega (arith, ends_as least xs ys e (same e), f.high e);
        in_time = λ e. omega (arith, ends_as least xs ys e (same e), f.in_time e);
      }

  pub fits_none : Starts horizon cs least → Fits horizon cs least []
  fits_none s =
      record {
        met = λ c a. s.met c a;
        low = λ e. omega arith;
        high = λ e. omega arith;
        in_time = λ e. s.in_time e;
      }

  -- the interval that comes next holds the event's least moment
  module _ (xs : List (Option (ℕ × ℕ))) (k : ℕ) (s : Starts horizon cs least) (f : Fits horizon cs least (take k xs)) where
    abbrev low : ℕ
    low = low_of cs (ends (take k xs) least) k

    abbrev high : ℕ
    high = high_of horizon cs (begins (take k xs) least) k

    begins_at : begins (take k xs) least k ≡ moments_of least k
    begins_at = begins_none least (take k xs) k (taken_before xs k k (omega arith))

    ends_at : ends (take k xs) least k ≡ moments_of least k
    ends_at = ends_none least (take k xs) k (taken_before xs k k (omega arith))

    from_here : (c : CrossBound) → Among c cs → c.from ≡ k → pos (ends (take k xs) least c.to) ≤ℤ (pos (moments_of least k) +ℤ c.w)
    from_here c a at = met_as _ _ _ _ c.w refl (sym (ap (begins (take k xs) least) at ∙ begins_at)) (f.met c a)

    to_here : (c : CrossBound) → Among c cs → c.to ≡ k → pos (moments_of least k) ≤ℤ (pos (begins (take k xs) least c.from) +ℤ c.w)
    to_here c a at = met_as _ _ _ _ c.w (sym (ap (ends (take k xs) least) at ∙ ends_at)) refl (f.met c a)

    pub low_holds : low ≤ moments_of least k
    low_holds = low_below (ends (take k xs) least) k cs (moments_of least k) (λ c a at. let h = from_here c a at in turned (ends (take k xs) least c.to) (moments_of least k) c.w h)

    pub high_holds : moments_of least k ≤ high
    high_holds = high_above horizon (begins (take k xs) least) k cs (moments_of least k) (s.in_time k) (λ c a at. moment_at_least _ _ (to_here c a at))

    exact : (c : CrossBound) → Among c cs → c.to ≡ k → pos (moment_from (pos (begins (take k xs) least c.from) +ℤ c.w)) ≡ (pos (begins (take k xs) least c.from) +ℤ c.w)
    exact c a at = moment_is _ (not_below (moments_of least k) _ (to_here c a at))

    module _ (is : get_or xs k None ≡ Some (low, high)) where
      new_begin : begins (take (k + 1) xs) least k ≡ low
      new_begin = begins_some least (take (k + 1) xs) k (low, high) (taken_here xs k ∙ is)

      new_end : ends (take (k + 1) xs) least k ≡ high
      new_end = ends_some least (take (k + 1) xs) k (low, high) (taken_here xs k ∙ is)

      old_begin : (e : ℕ) → (e ≡ k → ⊥) → begins (take (k + 1) xs) least e ≡ begins (take k xs) least e
      old_begin e ne = begins_as least (take k xs) (take (k + 1) xs) e (taken_other xs k e ne)

      old_end : (e : ℕ) → (e ≡ k → ⊥) → ends (take (k + 1) xs) least e ≡ ends (take k xs) least e
      old_end e ne = ends_as least (take k xs) (take (k + 1) xs) e (taken_other xs k e ne)

      new_met : (c : CrossBound) → Among c cs → pos (ends (take (k + 1) xs) least c.to) ≤ℤ (pos (begins (take (k + 1) xs) least c.from) +ℤ c.w)
      new_met c a =
          elim (cases_eq c.from k) [
            | inl at ↦
                let to_other : c.to ≡ k → ⊥ = λ same. s.apart c a (at ∙ sym same) in
                met_low _ _ _ low c.w (old_end c.to to_other) (ap (begins (take (k + 1) xs) least) at ∙ new_begin) (low_meets (ends (take k xs) least) k cs c a at)
            | inr ne ↦ elim (cases_eq c.to k) [
              | inl at ↦ met_high _ _ _ high c.w (ap (ends (take (k + 1) xs) least) at ∙ new_end) (old_begin c.from ne) (high_meets horizon (begins (take k xs) least) k cs c a at) (exact c a at)
              | inr differs ↦ met_as _ _ _ _ c.w (old_end c.to differs) (old_begin c.from ne) (f.met c a)
            ]
          ]

      pub fits_some : Fits horizon cs least (take (k + 1) xs)
      fits_some =
          record {
            met = new_met;
            low = λ e. elim (cases_eq e k) [
              | inl at ↦ subst (λ d. begins (take (k + 1) xs) least d ≤ moments_of least d) (sym at) (omega (arith, new_begin, low_holds))
              | inr ne ↦ omega (arith, old_begin e ne, f.low e)
            ];
            high = λ e. elim (cases_eq e k) [
              | inl at ↦ subst (λ d. moments_of least d ≤ ends (take (k + 1) xs) least d) (sym at) (omega (arith, new_end, high_holds))
              | inr ne ↦ omega (arith, old_end e ne, f.high e)
            ];
            in_time = λ e. elim (cases_eq e k) [
              | inl at ↦ subst (λ d. ends (take (k + 1) xs) least d ≤ horizon) (sym at) (omega (arith, new_end, high_in_time horizon (begins (take k xs) least) k cs))
              | inr ne ↦ omega (arith, old_end e ne, f.in_time e)
            ];
          }

    fits_next : (t : Bool) → get_or xs k None ≡ cond t (Some (low, high)) None → Fits horizon cs least (take (k + 1) xs)
    fits_next true is = fits_some is
    fits_next false is =
        fits_as (take k xs) (take (k + 1) xs) (λ e. elim (cases_eq e k) [
          | inl at ↦ subst (λ d. get_or (take (k + 1) xs) d None ≡ get_or (take k xs) d None) (sym at) (taken_here xs k ∙ (is ∙ sym (taken_before xs k k (omega arith))))
          | inr ne ↦ taken_other xs k e ne
        ]) f

  pub fits_taken : (xs : List (Option (ℕ × ℕ))) → Starts horizon cs least → AreIntervals horizon cs least xs → (k : ℕ) → k ≤ length xs → Fits horizon cs least (take k xs)
  fits_taken xs s are zero le = fits_none s
  fits_taken xs s are (suc k) le =
      let rest : Fits horizon cs least (take k xs) = fits_taken xs s are k (omega arith) in
      let one : suc k ≡ k + 1 = omega arith in
      subst (λ n. Fits horizon cs least (take n xs)) (sym one)
      (fits_next xs k s rest (is_interface cs k) (are.each k (omega arith)))

  pub fits_all : (xs : List (Option (ℕ × ℕ))) → Starts horizon cs least → AreIntervals horizon cs least xs → Fits horizon cs least xs
  fits_all xs s are = subst (Fits horizon cs least) (take_all (length xs) xs (omega arith)) (fits_taken xs s are (length xs) (omega arith))
