-- The intervals of a split: whatever is chosen within them meets each bound between agents, and none can be wider.
use Rattle.std.proofs.Common.{◌≡◌, ℕ, ◌+◌, ◌-◌, ◌<◌, ◌≤◌, ◌⊎◌, inl, inr, Bool, true, false, cond, nat_eq, List, length, take, set, get_or, Option, Some, None, ℤ, pos, ◌+ℤ◌, ◌-ℤ◌, ◌≤ℤ◌, refl, sym, ap, subst, ◌∙◌, IsSome, IsTrue, arith}
use Rattle.std.proofs.lemmas.Int.{ints}
use Rattle.std.proofs.lemmas.Bool.{cases_lt, cases_eq, eqb-false, eq-eqb, ne_eqb, cond-true, cond-false}
use Rattle.std.proofs.lemmas.Option.{cond_some, same_Some}
use Rattle.std.proofs.lemmas.List.{get_or-take, get_or_past, get_or-set_same, get_or-set_other}
use Rattle.std.specs.FinMap.{get, values}
use Rattle.tp_bounds.specs.declared.Point.{Point}
use Rattle.tp_bounds.specs.declared.Point.TheVariants.{Origin, Event}
use Rattle.tp_bounds.specs.declared.Bound.{Bound}
use Rattle.tp_bounds.specs.Setting.{Setting, event_count, HasPoint, IsInRange}
use Rattle.tp_bounds.specs.Schedule.{moment_of, Meets}
use Rattle.tp_bounds.specs.Certificates.{moments_of}
use Rattle.tp_bounds.specs.Lawful.{IsLawful}
use Rattle.tp_agents.specs.declared.crosses.CrossBound.{CrossBound}
use Rattle.tp_agents.specs.Owners.{owner_of}
use Rattle.tp_agents.specs.Crosses.{cross_between, cross_of, crosses_of, is_interface}
use Rattle.tp_agents.specs.Intervals.{begin_or, end_or, begins, ends, moment_from, low_of, high_of}
use Rattle.tp_agents.specs.Splits.{IsSplit}
use Rattle.tp_agents.specs.Decoupled.{AreInside, IsCrossBound, Decouples, AllowsBroken, IsWide}
use Rattle.tp_agents.proofs.InForce.{Among, get_among, among_get, among_map, map_among}
use Rattle.tp_agents.proofs.Ends.{moment_above, low_is, high_is, from_is_interface, to_is_interface, interface_has}
use Rattle.tp_agents.proofs.Fitting.{Starts, Fits, fits_all, taken_before, begins_some, ends_some, begins_none, ends_none}
use Rattle.tp_agents.proofs.OnSettings.{bound_as}

-- ---- a bound between agents

pub record IsCross (owners : List ℕ) (b : Bound) (c : CrossBound) : Type 0 where
  pub from : b.from ≡ Event c.from
  pub to : b.to ≡ Event c.to
  pub weight : b.w ≡ c.w
  pub apart : owner_of owners c.from ≡ owner_of owners c.to → ⊥

abbrev AreParts : List ℕ → Point → Point → ℤ → CrossBound → Type 0
AreParts owners p q w c =
    (p ≡ Event c.from) × (q ≡ Event c.to) × (w ≡ c.w) × (owner_of owners c.from ≡ owner_of owners c.to → ⊥)

parts_if : (owners : List ℕ) (d e : ℕ) (w : ℤ) (c : CrossBound) (t : Bool) → nat_eq (owner_of owners d) (owner_of owners e) ≡ t → cond t None (Some (record { from = d; to = e; w = w })) ≡ Some c → AreParts owners (Event d) (Event e) w c
parts_if owners d e w c true is h = absurd (let f : ⊥ = cc in f)
parts_if owners d e w c false is h =
    subst (AreParts owners (Event d) (Event e) w) (same_Some (record { from = d; to = e; w = w }) c h)
    (refl, refl, refl, eqb-false (owner_of owners d) (owner_of owners e) is)

cross_parts : (owners : List ℕ) (p q : Point) (w : ℤ) (c : CrossBound) → cross_between owners p q w ≡ Some c → AreParts owners p q w c
cross_parts owners Origin q w c h = absurd (let f : ⊥ = cc in f)
cross_parts owners (Event d) Origin w c h = absurd (let f : ⊥ = cc in f)
cross_parts owners (Event d) (Event e) w c h = parts_if owners d e w c (nat_eq (owner_of owners d) (owner_of owners e)) refl h

pub cross_is : (owners : List ℕ) (b : Bound) (c : CrossBound) → cross_of owners b ≡ Some c → IsCross owners b c
cross_is owners b c h =
    let p = cross_parts owners b.from b.to b.w c h in
    record { from = p.0; to = p.1; weight = p.2; apart = p.3 }

same_weight : (a b : ℕ) (v w : ℤ) → v ≡ w → pos a ≤ℤ (pos b +ℤ v) → pos a ≤ℤ (pos b +ℤ w)
same_weight a b v w p h = omega (arith, ints)

-- moments meet the bound where its second event comes no later than its weight after the first
pub meets_cross : (owners : List ℕ) (t : ℕ → ℕ) (b : Bound) (c : CrossBound) → IsCross owners b c → pos (t c.to) ≤ℤ (pos (t c.from) +ℤ c.w) → Meets t b
meets_cross owners t b c is h =
    bound_as (t c.to) (moment_of t b.to) (t c.from) (moment_of t b.from) b.w (ap (moment_of t) is.to) (ap (moment_of t) is.from)
    (same_weight (t c.to) (t c.from) c.w b.w (sym is.weight) h)

pub cross_meets : (owners : List ℕ) (t : ℕ → ℕ) (b : Bound) (c : CrossBound) → IsCross owners b c → Meets t b → pos (t c.to) ≤ℤ (pos (t c.from) +ℤ c.w)
cross_meets owners t b c is h =
    same_weight (t c.to) (t c.from) b.w c.w is.weight
    (bound_as (moment_of t b.to) (t c.to) (moment_of t b.from) (t c.from) b.w (sym (ap (moment_of t) is.to)) (sym (ap (moment_of t) is.from)) h)

-- the bound in force that a cross bound is
pub record Comes (s : Setting) (owners : List ℕ) (c : CrossBound) : Type 0 where
  pub bound : Bound
  pub id : ℕ
  pub there : get s.bounds id ≡ Some bound
  pub gives : cross_of owners bound ≡ Some c
  pub is : IsCross owners bound c

pub comes_from : (s : Setting) (owners : List ℕ) (c : CrossBound) → Among c (crosses_of s owners) → Comes s owners c
comes_from s owners c a =
    let m = map_among (cross_of owners) (values s.bounds) c a in
    let g = among_get s.bounds m.0 m.1 in
    record { bound = m.0; id = g.0; there = g.1; gives = m.2; is = cross_is owners m.0 c m.2 }

pub known_from : (s : Setting) (owners : List ℕ) (c : CrossBound) → IsLawful s → Among c (crosses_of s owners) → c.from < event_count s
known_from s owners c lawful a =
    let k = comes_from s owners c a in
    let h : HasPoint s (Event c.from) = subst (HasPoint s) k.is.from (lawful.in_force k.id k.bound k.there).from in
    h

pub known_to : (s : Setting) (owners : List ℕ) (c : CrossBound) → IsLawful s → Among c (crosses_of s owners) → c.to < event_count s
known_to s owners c lawful a =
    let k = comes_from s owners c a in
    let h : HasPoint s (Event c.to) = subst (HasPoint s) k.is.to (lawful.in_force k.id k.bound k.there).to in
    h

pub known_weight : (s : Setting) (owners : List ℕ) (c : CrossBound) → IsLawful s → Among c (crosses_of s owners) → IsInRange c.w
known_weight s owners c lawful a =
    let k = comes_from s owners c a in
    subst IsInRange k.is.weight (lawful.in_force k.id k.bound k.there).weight

-- an interface event is an event
pub interface_known : (s : Setting) (owners : List ℕ) (e : ℕ) → IsLawful s → is_interface (crosses_of s owners) e ≡ true → e < event_count s
interface_known s owners e lawful h =
    let w = interface_has (crosses_of s owners) e h in
    elim w.2 [
      | inl at ↦ subst (λ d. d < event_count s) at (known_from s owners w.0 lawful w.1)
      | inr at ↦ subst (λ d. d < event_count s) at (known_to s owners w.0 lawful w.1)
    ]

-- ---- where the intervals begin

from_there : {X : Type 0} (xs : List (Option X)) (e : ℕ) (x : X) → get_or xs e None ≡ Some x → e < length xs
from_there xs e x h =
    elim (cases_lt e (length xs)) [
      | inl lt ↦ lt
      | inr ge ↦ absurd (let p : None ≡ Some x = sym (get_or_past xs e None ge) ∙ h in let f : ⊥ = cc in f)
    ]

pub has_interval : {X : Type 0} (xs : List (Option X)) (e : ℕ) (x : X) → get_or xs e None ≡ Some x → e < length xs
has_interval xs e x h = from_there xs e x h

broken_low : (n n' lo l : ℕ) (w : ℤ) → pos lo ≡ (pos n -ℤ w) → n ≤ n' → (lo ≡ 0 → ⊥) → l ≡ lo - 1 → pos n' ≤ℤ (pos l +ℤ w) → ⊥
broken_low n n' lo l w is up some at h =
    let more : l + 1 ≡ lo = omega arith in
    omega (arith, ints)

broken_high : (b b' hi h : ℕ) (w : ℤ) → hi ≡ moment_from (pos b +ℤ w) → b' ≤ b → h ≡ hi + 1 → pos h ≤ℤ (pos b' +ℤ w) → ⊥
broken_high b b' hi h w is down at k =
    let above : (pos b +ℤ w) ≤ℤ pos (moment_from (pos b +ℤ w)) = moment_above (pos b +ℤ w) in
    omega (arith, ints)

within_both : (t u n b : ℕ) (w : ℤ) → t ≤ n → b ≤ u → pos n ≤ℤ (pos b +ℤ w) → pos t ≤ℤ (pos u +ℤ w)
within_both t u n b w p q h = omega (arith, ints)

module _ (s : Setting) (owners least : List ℕ) (xs : List (Option (ℕ × ℕ))) (sp : IsSplit s owners least xs) where
  abbrev cs : List CrossBound
  cs = crosses_of s owners

  pub least_in_time : (e : ℕ) → moments_of least e ≤ s.horizon
  least_in_time e =
      elim (cases_lt e (length least)) [
        | inl lt ↦ sp.solved.schedule.is.end e (omega (arith, sp.solved.count)) (sp.unbegun.no_past e)
        | inr ge ↦ let z : moments_of least e ≡ 0 = get_or_past least e 0 ge in omega arith
      ]

  pub starts : Starts s.horizon cs least
  starts =
      record {
        apart = λ c a same. (comes_from s owners c a).is.apart (ap (owner_of owners) same);
        met = λ c a.
            let k = comes_from s owners c a in
            cross_meets owners (moments_of least) k.bound c k.is (sp.solved.schedule.is.in_force k.id k.bound k.there);
        in_time = least_in_time;
      }

  pub fits : Fits s.horizon cs least xs
  fits = fits_all s.horizon cs least xs starts sp.decoupled

  pub least_here : (e : ℕ) (i : ℕ × ℕ) → get_or xs e None ≡ Some i → (i.0 ≤ moments_of least e) × (moments_of least e ≤ i.1)
  least_here e i is =
      (omega (arith, begins_some least xs e i is, fits.low e), omega (arith, ends_some least xs e i is, fits.high e))

  -- an interface event has an interval
  pub interval_there : (e : ℕ) → e < event_count s → is_interface cs e ≡ true → (i : ℕ × ℕ) × (get_or xs e None ≡ Some i)
  interval_there e lt joins =
      let lo : ℕ = low_of cs (ends (take e xs) least) e in
      let hi : ℕ = high_of s.horizon cs (begins (take e xs) least) e in
      let within : e < length xs = omega (arith, sp.decoupled.count, sp.solved.count) in (
        (lo, hi),
        sp.decoupled.each e within ∙ cond-true {A = Option (ℕ × ℕ)} (is_interface cs e) (Some (lo, hi)) None joins,
      )

  -- ---- whatever is chosen within

  pub decouples : IsLawful s → Decouples s owners xs
  decouples lawful t b inside cross =
      let c : CrossBound = cross.2.0 in
      let a : Among c cs = among_map (cross_of owners) (values s.bounds) b c (get_among s.bounds cross.0 b cross.1) cross.2.1 in
      let i = interval_there c.from (known_from s owners c lawful a) (from_is_interface cs c a) in
      let j = interval_there c.to (known_to s owners c lawful a) (to_is_interface cs c a) in
      let low : (i.0).0 ≤ t c.from = (inside c.from i.0 i.1).0 in
      let high : t c.to ≤ (j.0).1 = (inside c.to j.0 j.1).1 in
      let first : begins xs least c.from ≡ (i.0).0 = begins_some least xs c.from i.0 i.1 in
      let last : ends xs least c.to ≡ (j.0).1 = ends_some least xs c.to j.0 j.1 in
      meets_cross owners t b c (cross_is owners b c cross.2.1)
      (within_both (t c.to) (t c.from) (ends xs least c.to) (begins xs least c.from) c.w (omega arith) (omega arith) (fits.met c a))

  -- ---- none is wider

  ends_grow : (e d : ℕ) → ends (take e xs) least d ≤ ends xs least d
  ends_grow e d =
      elim (cases_lt d e) [
        | inl lt ↦ let p : ends (take e xs) least d ≡ ends xs least d = ap (λ o. end_or o (moments_of least d)) (get_or-take e xs d None lt) in omega arith
        | inr ge ↦ let p : ends (take e xs) least d ≡ moments_of least d = ends_none least (take e xs) d (taken_before xs e d ge) in omega (arith, fits.high d)
      ]

  begins_shrink : (e d : ℕ) → begins xs least d ≤ begins (take e xs) least d
  begins_shrink e d =
      elim (cases_lt d e) [
        | inl lt ↦ let p : begins (take e xs) least d ≡ begins xs least d = ap (λ o. begin_or o (moments_of least d)) (get_or-take e xs d None lt) in omega arith
        | inr ge ↦ let p : begins (take e xs) least d ≡ moments_of least d = begins_none least (take e xs) d (taken_before xs e d ge) in omega (arith, fits.low d)
      ]

  -- one event is elsewhere, each other as it was
  abbrev elsewhere : (ℕ → ℕ) → ℕ → ℕ → ℕ → ℕ
  elsewhere t e m d = cond (nat_eq d e) m (t d)

  it_is : (t : ℕ → ℕ) (e m d : ℕ) → d ≡ e → elsewhere t e m d ≡ m
  it_is t e m d at = cond-true (nat_eq d e) m (t d) (eq-eqb d e at)

  others_stay : (t : ℕ → ℕ) (e m d : ℕ) → (d ≡ e → ⊥) → elsewhere t e m d ≡ t d
  others_stay t e m d ne = cond-false (nat_eq d e) m (t d) (ne_eqb d e ne)

  inside_wider : (t : ℕ → ℕ) (e m : ℕ) (j : ℕ × ℕ) → e < length xs → (j.0 ≤ m) × (m ≤ j.1) → AreInside xs t → AreInside (set xs e (Some j)) (elsewhere t e m)
  inside_wider t e m j lt in' inside d i is =
      elim (cases_eq d e) [
        | inl at ↦
            let q : Some j ≡ Some i = sym (get_or-set_same xs e (Some j) None lt) ∙ (ap (λ k. get_or (set xs e (Some j)) k None) (sym at) ∙ is) in
            let same : j ≡ i = same_Some j i q in
            let moved : elsewhere t e m d ≡ m = it_is t e m d at in
            subst (λ n. (i.0 ≤ n) × (n ≤ i.1)) (sym moved) (subst (λ (k : ℕ × ℕ). (k.0 ≤ m) × (m ≤ k.1)) same in')
        | inr ne ↦
            let old : get_or xs d None ≡ Some i = sym (get_or-set_other xs e d (Some j) None ne) ∙ is in
            subst (λ n. (i.0 ≤ n) × (n ≤ i.1)) (sym (others_stay t e m d ne)) (inside d i old)
      ]

  last_inside : AreInside xs (ends xs least)
  last_inside e i is = let h = least_here e i is in let k : ends xs least e ≡ i.1 = ends_some least xs e i is in (omega (arith, h.0, h.1), omega arith)

  first_inside : AreInside xs (begins xs least)
  first_inside e i is = let h = least_here e i is in let k : begins xs least e ≡ i.0 = begins_some least xs e i is in (omega arith, omega (arith, h.0, h.1))

  of_bound : (t : ℕ → ℕ) (c : CrossBound) → Among c cs → (pos (t c.to) ≤ℤ (pos (t c.from) +ℤ c.w) → ⊥) → (b : Bound) × IsCrossBound s owners b × ¬ Meets t b
  of_bound t c a never =
      let k = comes_from s owners c a in
      (k.bound, (k.id, k.there, (c, k.gives)), λ h. never (cross_meets owners t k.bound c k.is h))

  pub wide_down : (e : ℕ) (i : ℕ × ℕ) → get_or xs e None ≡ Some i → (i.0 ≡ 0) ⊎ AllowsBroken s owners (set xs e (Some (i.0 - 1, i.1)))
  wide_down e i is =
      let lt : e < length xs = from_there xs e i is in
      let lo : ℕ = low_of cs (ends (take e xs) least) e in
      let hi : ℕ = high_of s.horizon cs (begins (take e xs) least) e in
      let same : ◌≡◌ {A = ℕ × ℕ} (lo, hi) i = (cond_some {A = ℕ × ℕ} (is_interface cs e) (lo, hi) i (sym (sp.decoupled.each e lt) ∙ is)).1 in
      let at : lo ≡ i.0 = ap (λ (k : ℕ × ℕ). k.0) same in
      let here = least_here e i is in
      elim (low_is (ends (take e xs) least) e cs) [
        | inl zero ↦ inl (sym at ∙ zero)
        | inr w ↦ elim (cases_eq i.0 0) [
          | inl none ↦ inl none
          | inr some ↦
              let c : CrossBound = w.0 in
              let t : ℕ → ℕ = elsewhere (ends xs least) e (i.0 - 1) in
              let other : c.to ≡ e → ⊥ = λ k. starts.apart c w.1 (w.2 ∙ sym k) in
              let from : t c.from ≡ i.0 - 1 = it_is (ends xs least) e (i.0 - 1) c.from w.2 in
              let to : t c.to ≡ ends xs least c.to = others_stay (ends xs least) e (i.0 - 1) c.to other in
              let up : ends (take e xs) least c.to ≤ ends xs least c.to = ends_grow e c.to in
              inr (
                t,
                inside_wider (ends xs least) e (i.0 - 1) (i.0 - 1, i.1) lt (omega arith, omega (arith, here.0, here.1)) last_inside,
                of_bound t c w.1 (λ h. broken_low (ends (take e xs) least c.to) (t c.to) i.0 (t c.from) c.w (ap pos (sym at) ∙ w.3) (omega arith) some from h),
              )
        ]
      ]

  pub wide_up : (e : ℕ) (i : ℕ × ℕ) → get_or xs e None ≡ Some i → (i.1 ≡ s.horizon) ⊎ AllowsBroken s owners (set xs e (Some (i.0, i.1 + 1)))
  wide_up e i is =
      let lt : e < length xs = from_there xs e i is in
      let lo : ℕ = low_of cs (ends (take e xs) least) e in
      let hi : ℕ = high_of s.horizon cs (begins (take e xs) least) e in
      let same : ◌≡◌ {A = ℕ × ℕ} (lo, hi) i = (cond_some {A = ℕ × ℕ} (is_interface cs e) (lo, hi) i (sym (sp.decoupled.each e lt) ∙ is)).1 in
      let at : hi ≡ i.1 = ap (λ (k : ℕ × ℕ). k.1) same in
      let here = least_here e i is in
      elim (high_is s.horizon (begins (take e xs) least) e cs) [
        | inl whole ↦ inl (sym at ∙ whole)
        | inr w ↦
            let c : CrossBound = w.0 in
            let t : ℕ → ℕ = elsewhere (begins xs least) e (i.1 + 1) in
            let other : c.from ≡ e → ⊥ = λ k. starts.apart c w.1 (k ∙ sym w.2) in
            let to : t c.to ≡ i.1 + 1 = it_is (begins xs least) e (i.1 + 1) c.to w.2 in
            let from : t c.from ≡ begins xs least c.from = others_stay (begins xs least) e (i.1 + 1) c.from other in
            let down : begins xs least c.from ≤ begins (take e xs) least c.from = begins_shrink e c.from in
            inr (
              t,
              inside_wider (begins xs least) e (i.1 + 1) (i.0, i.1 + 1) lt (omega (arith, here.0, here.1), omega arith) first_inside,
              of_bound t c w.1 (λ h. broken_high (begins (take e xs) least c.from) (t c.from) i.1 (t c.to) c.w (sym at ∙ w.3) (omega arith) to h),
            )
      ]

  pub wide : IsWide s owners xs
  wide = record { down = wide_down; up = wide_up }

  interval_is_interface : (e : ℕ) (i : ℕ × ℕ) → get_or xs e None ≡ Some i → is_interface cs e ≡ true
  interval_is_interface e i is =
      let lo : ℕ = low_of cs (ends (take e xs) least) e in
      let hi : ℕ = high_of s.horizon cs (begins (take e xs) least) e in
      (cond_some {A = ℕ × ℕ} (is_interface cs e) (lo, hi) i (sym (sp.decoupled.each e (from_there xs e i is)) ∙ is)).0

  -- just the interface events have intervals
  pub interface_iff : IsLawful s → (e : ℕ) (o : Option (ℕ × ℕ)) → o ≡ get_or xs e None → (IsSome o → IsTrue (is_interface cs e)) × (IsTrue (is_interface cs e) → IsSome o)
  interface_iff lawful e None is = (
    λ h. absurd (let f : ⊥ = cc in f),
    λ h.
        let i = interval_there e (interface_known s owners e lawful h) h in
        absurd (let p : None ≡ Some i.0 = is ∙ i.1 in let f : ⊥ = cc in f),
  )
  interface_iff lawful e (Some i) is = (λ h. interval_is_interface e i (sym is), λ h. refl)
