-- What the ends of an interval meet, and by which bound each is as far as it can be.
use Rattle.std.proofs.Common.{◌≡◌, ℕ, ◌<◌, ◌≤◌, ◌⊎◌, inl, inr, max, min, Bool, true, false, cond, ◌||◌, nat_eq, List, [], ◌∷◌, ℤ, pos, negsuc, ◌+ℤ◌, ◌-ℤ◌, ◌≤ℤ◌, refl, sym, ap, subst, ◌∙◌, arith}
use Rattle.std.proofs.lemmas.Int.{ints}
use Rattle.std.proofs.lemmas.Bool.{eqb-true, eq-eqb, or_cases, or_left, or_right, cases_lt}
use Rattle.tp_bounds.specs.Setting.{IsInRange}
use Rattle.tp_agents.specs.declared.crosses.CrossBound.{CrossBound}
use Rattle.tp_agents.specs.Crosses.{is_interface}
use Rattle.tp_agents.specs.Intervals.{moment_from, low_of, high_of}
use Rattle.tp_agents.proofs.InForce.{Among}

-- ---- a whole number as a moment

pub moment_above : (z : ℤ) → z ≤ℤ pos (moment_from z)
moment_above (pos m) = omega (arith, ints)
moment_above (negsuc m) = omega (arith, ints)

pub moment_is : (z : ℤ) → pos 0 ≤ℤ z → pos (moment_from z) ≡ z
moment_is (pos m) h = refl
moment_is (negsuc m) h = absurd (let f : ⊥ = omega (arith, ints) in f)

moment_some : (z : ℤ) → 0 < moment_from z → pos (moment_from z) ≡ z
moment_some (pos m) h = refl
moment_some (negsuc m) h = absurd (let f : ⊥ = omega arith in f)

pub moment_at_least : (z : ℤ) (m : ℕ) → pos m ≤ℤ z → m ≤ moment_from z
moment_at_least (pos k) m h = omega (arith, ints)
moment_at_least (negsuc k) m h = absurd (let f : ⊥ = omega (arith, ints) in f)

-- ---- the first moment

pick_low : (t : Bool) (m r : ℕ) → (r ≤ cond t (max m r) r) × (t ≡ true → m ≤ cond t (max m r) r)
pick_low true m r = (omega arith, λ h. omega arith)
pick_low false m r = (omega arith, λ h. absurd (let f : ⊥ = cc in f))

pub low_meets : (last : ℕ → ℕ) (e : ℕ) (cs : List CrossBound) (c : CrossBound) → Among c cs → c.from ≡ e → (pos (last c.to) -ℤ c.w) ≤ℤ pos (low_of cs last e)
low_meets last e [] c a at = absurd a
low_meets last e (b ∷ bs) c (inl same) at =
    let from : b.from ≡ e = ap (λ (x : CrossBound). x.from) same ∙ at in
    let m : ℕ = moment_from (pos (last b.to) -ℤ b.w) in
    let up : m ≤ low_of (b ∷ bs) last e = (pick_low (nat_eq b.from e) m (low_of bs last e)).1 (eq-eqb b.from e from) in
    let below : (pos (last b.to) -ℤ b.w) ≤ℤ pos m = moment_above (pos (last b.to) -ℤ b.w) in
    subst (λ (x : CrossBound). (pos (last x.to) -ℤ x.w) ≤ℤ pos (low_of (b ∷ bs) last e)) same (omega (arith, ints))
low_meets last e (b ∷ bs) c (inr a) at =
    let up : low_of bs last e ≤ low_of (b ∷ bs) last e = (pick_low (nat_eq b.from e) (moment_from (pos (last b.to) -ℤ b.w)) (low_of bs last e)).0 in
    let rest : (pos (last c.to) -ℤ c.w) ≤ℤ pos (low_of bs last e) = low_meets last e bs c a at in
    omega (arith, ints)

-- it is 0, or where some bound from the event is just met
abbrev pub IsLow : (ℕ → ℕ) → ℕ → List CrossBound → ℕ → Type 0
IsLow last e cs low =
    (low ≡ 0) ⊎ ((c : CrossBound) × Among c cs × (c.from ≡ e) × (pos low ≡ (pos (last c.to) -ℤ c.w)))

low_later : (last : ℕ → ℕ) (e : ℕ) (b : CrossBound) (bs : List CrossBound) (r : ℕ) → IsLow last e bs r → IsLow last e (b ∷ bs) r
low_later last e b bs r (inl zero) = inl zero
low_later last e b bs r (inr w) = inr (w.0, inr w.1, w.2, w.3)

greater : (m r : ℕ) → ((max m r ≡ r) ⊎ ((max m r ≡ m) × (0 < m)))
greater m r = elim (cases_lt r m) [
  | inl lt ↦ inr (omega arith, omega arith)
  | inr ge ↦ inl (omega arith)
]

low_step : (last : ℕ → ℕ) (e : ℕ) (b : CrossBound) (bs : List CrossBound) (r : ℕ) (t : Bool) → nat_eq b.from e ≡ t → IsLow last e bs r → IsLow last e (b ∷ bs) (cond t (max (moment_from (pos (last b.to) -ℤ b.w)) r) r)
low_step last e b bs r false is h = low_later last e b bs r h
low_step last e b bs r true is h =
    let z : ℤ = pos (last b.to) -ℤ b.w in
    elim (greater (moment_from z) r) [
      | inl same ↦ subst (IsLow last e (b ∷ bs)) (sym same) (low_later last e b bs r h)
      | inr more ↦ subst (IsLow last e (b ∷ bs)) (sym more.0) (inr (b, inl refl, eqb-true b.from e is, moment_some z more.1))
    ]

pub low_is : (last : ℕ → ℕ) (e : ℕ) (cs : List CrossBound) → IsLow last e cs (low_of cs last e)
low_is last e [] = inl refl
low_is last e (b ∷ bs) = low_step last e b bs (low_of bs last e) (nat_eq b.from e) refl (low_is last e bs)

pub low_below : (last : ℕ → ℕ) (e : ℕ) (cs : List CrossBound) (m : ℕ) → ((c : CrossBound) → Among c cs → c.from ≡ e → (pos (last c.to) -ℤ c.w) ≤ℤ pos m) → low_of cs last e ≤ m
low_below last e cs m h =
    elim (low_is last e cs) [
      | inl zero ↦ omega arith
      | inr w ↦ let k : (pos (last (w.0).to) -ℤ (w.0).w) ≤ℤ pos m = h w.0 w.1 w.2 in omega (arith, ints, w.3)
    ]

-- ---- the last moment

pick_high : (t : Bool) (m r : ℕ) → (cond t (min m r) r ≤ r) × (t ≡ true → cond t (min m r) r ≤ m)
pick_high true m r = (omega arith, λ h. omega arith)
pick_high false m r = (omega arith, λ h. absurd (let f : ⊥ = cc in f))

pub high_in_time : (horizon : ℕ) (first : ℕ → ℕ) (e : ℕ) (cs : List CrossBound) → high_of horizon cs first e ≤ horizon
high_in_time horizon first e [] = omega arith
high_in_time horizon first e (b ∷ bs) =
    let down : high_of horizon (b ∷ bs) first e ≤ high_of horizon bs first e = (pick_high (nat_eq b.to e) (moment_from (pos (first b.from) +ℤ b.w)) (high_of horizon bs first e)).0 in
    omega (arith, high_in_time horizon first e bs)

pub high_meets : (horizon : ℕ) (first : ℕ → ℕ) (e : ℕ) (cs : List CrossBound) (c : CrossBound) → Among c cs → c.to ≡ e → high_of horizon cs first e ≤ moment_from (pos (first c.from) +ℤ c.w)
high_meets horizon first e [] c a at = absurd a
high_meets horizon first e (b ∷ bs) c (inl same) at =
    let to : b.to ≡ e = ap (λ (x : CrossBound). x.to) same ∙ at in
    subst (λ (x : CrossBound). high_of horizon (b ∷ bs) first e ≤ moment_from (pos (first x.from) +ℤ x.w)) same
    ((pick_high (nat_eq b.to e) (moment_from (pos (first b.from) +ℤ b.w)) (high_of horizon bs first e)).1 (eq-eqb b.to e to))
high_meets horizon first e (b ∷ bs) c (inr a) at =
    let down : high_of horizon (b ∷ bs) first e ≤ high_of horizon bs first e = (pick_high (nat_eq b.to e) (moment_from (pos (first b.from) +ℤ b.w)) (high_of horizon bs first e)).0 in
    let rest : high_of horizon bs first e ≤ moment_from (pos (first c.from) +ℤ c.w) = high_meets horizon first e bs c a at in
    omega arith

-- it is the horizon, or where some bound to the event is just met
abbrev pub IsHigh : ℕ → (ℕ → ℕ) → ℕ → List CrossBound → ℕ → Type 0
IsHigh horizon first e cs high =
    (high ≡ horizon) ⊎ ((c : CrossBound) × Among c cs × (c.to ≡ e) × (high ≡ moment_from (pos (first c.from) +ℤ c.w)))

high_later : (horizon : ℕ) (first : ℕ → ℕ) (e : ℕ) (b : CrossBound) (bs : List CrossBound) (r : ℕ) → IsHigh horizon first e bs r → IsHigh horizon first e (b ∷ bs) r
high_later horizon first e b bs r (inl at) = inl at
high_later horizon first e b bs r (inr w) = inr (w.0, inr w.1, w.2, w.3)

lesser : (m r : ℕ) → (min m r ≡ r) ⊎ (min m r ≡ m)
lesser m r = elim (cases_lt r m) [
  | inl lt ↦ inl (omega arith)
  | inr ge ↦ inr (omega arith)
]

high_step : (horizon : ℕ) (first : ℕ → ℕ) (e : ℕ) (b : CrossBound) (bs : List CrossBound) (r : ℕ) (t : Bool) → nat_eq b.to e ≡ t → IsHigh horizon first e bs r → IsHigh horizon first e (b ∷ bs) (cond t (min (moment_from (pos (first b.from) +ℤ b.w)) r) r)
high_step horizon first e b bs r false is h = high_later horizon first e b bs r h
high_step horizon first e b bs r true is h =
    elim (lesser (moment_from (pos (first b.from) +ℤ b.w)) r) [
      | inl same ↦ subst (IsHigh horizon first e (b ∷ bs)) (sym same) (high_later horizon first e b bs r h)
      | inr less ↦ subst (IsHigh horizon first e (b ∷ bs)) (sym less) (inr (b, inl refl, eqb-true b.to e is, refl))
    ]

pub high_is : (horizon : ℕ) (first : ℕ → ℕ) (e : ℕ) (cs : List CrossBound) → IsHigh horizon first e cs (high_of horizon cs first e)
high_is horizon first e [] = inl refl
high_is horizon first e (b ∷ bs) = high_step horizon first e b bs (high_of horizon bs first e) (nat_eq b.to e) refl (high_is horizon first e bs)

pub high_above : (horizon : ℕ) (first : ℕ → ℕ) (e : ℕ) (cs : List CrossBound) (m : ℕ) → m ≤ horizon → ((c : CrossBound) → Among c cs → c.to ≡ e → m ≤ moment_from (pos (first c.from) +ℤ c.w)) → m ≤ high_of horizon cs first e
high_above horizon first e cs m within h =
    elim (high_is horizon first e cs) [
      | inl at ↦ omega arith
      | inr w ↦ let k : m ≤ moment_from (pos (first (w.0).from) +ℤ (w.0).w) = h w.0 w.1 w.2 in omega (arith, w.3)
    ]

-- ---- both fit a number of 32 bits

pub low_small : (last : ℕ → ℕ) (e : ℕ) (cs : List CrossBound) → ((c : CrossBound) → Among c cs → IsInRange c.w) → ((d : ℕ) → last d ≤ 1_000_000_000) → low_of cs last e ≤ 3_000_000_000
low_small last e cs range few =
    low_below last e cs 3_000_000_000 (λ c a at.
    let r : (pos 0 -ℤ pos 2_000_000_000) ≤ℤ c.w = (range c a).not_low in
    let l : last c.to ≤ 1_000_000_000 = few c.to in
    omega (arith, ints))

-- ---- the events of the bounds

touching : (a b : ℕ) (e : ℕ) → (nat_eq a e || nat_eq b e) ≡ true → (a ≡ e) ⊎ (b ≡ e)
touching a b e h = elim (or_cases (nat_eq a e) (nat_eq b e) h) [
  | inl p ↦ inl (eqb-true a e p)
  | inr p ↦ inr (eqb-true b e p)
]

pub from_is_interface : (cs : List CrossBound) (c : CrossBound) → Among c cs → is_interface cs c.from ≡ true
from_is_interface [] c a = absurd a
from_is_interface (b ∷ bs) c (inl same) =
    or_left (nat_eq b.from c.from || nat_eq b.to c.from) (is_interface bs c.from)
    (or_left (nat_eq b.from c.from) (nat_eq b.to c.from) (eq-eqb b.from c.from (ap (λ (x : CrossBound). x.from) same)))
from_is_interface (b ∷ bs) c (inr a) =
    or_right (nat_eq b.from c.from || nat_eq b.to c.from) (is_interface bs c.from) (from_is_interface bs c a)

pub to_is_interface : (cs : List CrossBound) (c : CrossBound) → Among c cs → is_interface cs c.to ≡ true
to_is_interface [] c a = absurd a
to_is_interface (b ∷ bs) c (inl same) =
    or_left (nat_eq b.from c.to || nat_eq b.to c.to) (is_interface bs c.to)
    (or_right (nat_eq b.from c.to) (nat_eq b.to c.to) (eq-eqb b.to c.to (ap (λ (x : CrossBound). x.to) same)))
to_is_interface (b ∷ bs) c (inr a) =
    or_right (nat_eq b.from c.to || nat_eq b.to c.to) (is_interface bs c.to) (to_is_interface bs c a)

pub interface_has : (cs : List CrossBound) (e : ℕ) → is_interface cs e ≡ true → (c : CrossBound) × Among c cs × ((c.from ≡ e) ⊎ (c.to ≡ e))
interface_has [] e h = absurd (let f : ⊥ = cc in f)
interface_has (b ∷ bs) e h =
    elim (or_cases (nat_eq b.from e || nat_eq b.to e) (is_interface bs e) h) [
      | inl p ↦ (b, inl refl, touching b.from b.to e p)
      | inr p ↦ let r = interface_has bs e p in (r.0, inr r.1, r.2)
    ]
