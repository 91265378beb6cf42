-- The head of a new executive is one of the format.
use Rattle.std.proofs.Common.{◌≡◌, ◌⊎◌, inl, inr, ℕ, zero, suc, ◌+◌, ◌≤◌, ◌<◌, List, [], ◌∷◌, length, get_or, Option, Some, None, Bool, true, false, cond, refl, ap, arith}
use Rattle.std.specs.Prelude.{ℤ, pos, negsuc, nat_eq, MatchOption}
use Rattle.std.specs.List.{All}
use Rattle.std.specs.Ordering.{nat_cmp}
use Rattle.std.specs.FinMap.{FinMap, get}
use Rattle.std.proofs.lemmas.List.Elements.{All-nil, All-cons}
use Rattle.std.proofs.lemmas.Bool.Decides.{nat_tests}
use Rattle.std.proofs.lemmas.Int.{ints}
use Rattle.tp_bounds.specs.declared.Bound.{Bound}
use Rattle.tp_bounds.specs.declared.Point.{Point}
use Rattle.tp_bounds.specs.declared.Point.TheVariants.{Origin, Event}
use Rattle.tp_bounds.specs.Setting.{Setting, event_count, HasPoint, IsInRange}
use Rattle.tp_bounds.specs.Lawful.{IsLawful, Suits}
use Rattle.tp_exec_machine.specs.declared.command.Kind.{Kind}
use Rattle.tp_exec_machine.specs.declared.command.Kind.TheVariants.{Bare, Kept, Altered}
use Rattle.tp_exec_machine.specs.Machine.{Machine}
use Rattle.tp_journal_pairs.specs.Journal.{IsHead, IsVersion, IsWritable, IsWritablePoint, IsWritableWeight, AreLags, head_of, lags_of, lags_from, own_by, bounds_from, before_bounds}
use Rattle.tp_journal_pairs.specs.Writing.{IsNewExecutive}
use Rattle.tp_journal_pairs.proofs.WriteLemmas.{own_count, new_in_force}

lag_put : (b : Bool) (least e n l : ℕ) (rest : List (ℕ × ℕ)) → nat_eq l 0 ≡ b → least ≤ e → e < n → l ≤ 1_000_000_000 → AreLags least n rest → AreLags (e + 1) n rest → AreLags least n (cond b rest ((e, l) ∷ rest))
lag_put true least e n l rest is low lt high as_is behind = as_is
lag_put false least e n l rest is low lt high as_is behind = let some : 0 < l = grind (arith, nat_tests, is) in (low, lt, some, high, behind)

lags_are : (least e n : ℕ) (ls : List ℕ) → least ≤ e → e + length ls ≤ n → ((k : ℕ) → get_or ls k 0 ≤ 1_000_000_000) → AreLags least n (lags_from e ls)
lags_are least e n [] low high each = tt
lags_are least e n (l ∷ ls) low high each =
    lag_put (nat_eq l 0) least e n l (lags_from (e + 1) ls) refl low (omega arith) (each 0) (lags_are least (e + 1) n ls (omega arith) (omega arith) (λ k. each (suc k))) (lags_are (e + 1) (e + 1) n ls (omega arith) (omega arith) (λ k. each (suc k)))

point_writable : (s : Setting) (p : Point) → event_count s ≤ 1_024 → HasPoint s p → IsWritablePoint p
point_writable s Origin few has = tt
point_writable s (Event e) few has = let lt : e < event_count s = has in omega arith

weight_writable : (w : ℤ) → IsInRange w → IsWritableWeight w
weight_writable (pos n) h = omega (arith, ints, h.not_high)
weight_writable (negsuc n) h = omega (arith, ints, h.not_low)

suited : (s : Setting) (b : Bound) → event_count s ≤ 1_024 → Suits s b → IsWritable b
suited s b few h = (point_writable s b.from few h.from, point_writable s b.to few h.to, weight_writable b.w h.weight)

bound_put : (o : Option Bound) (rest : List Bound) → ((b : Bound) → o ≡ Some b → IsWritable b) → All IsWritable rest → All IsWritable (before_bounds o rest)
bound_put None rest each all = all
bound_put (Some b) rest each all = All-cons IsWritable b rest (each b refl) all

all_writable : (held : FinMap nat_cmp Bound) (id count : ℕ) → ((k : ℕ) (b : Bound) → get held k ≡ Some b → IsWritable b) → All IsWritable (bounds_from held id count)
all_writable held id zero each = All-nil IsWritable
all_writable held id (suc count) each = bound_put (get held id) (bounds_from held (suc id) count) (each id) (all_writable held (suc id) count each)

own_fits : (k : Kind) (bounds : List Bound) → (k ≡ Bare) ⊎ (length bounds ≤ 65_535) → All IsWritable bounds → MatchOption (own_by k bounds) (Unit {0}) (λ bs. (length bs ≤ 65_535) × All IsWritable bs)
own_fits Bare bounds few all = tt
own_fits Kept bounds (inl is) all = absurd (let f : ⊥ = cc in f)
own_fits Kept bounds (inr few) all = (few, all)
own_fits Altered bounds (inl is) all = absurd (let f : ⊥ = cc in f)
own_fits Altered bounds (inr few) all = (few, all)

few_bounds : (m : Machine) → IsNewExecutive m → (m.kind ≡ Bare) ⊎ (m.next ≤ 65_535) → (m.kind ≡ Bare) ⊎ (length (bounds_from m.setting.bounds 0 m.next) ≤ 65_535)
few_bounds m new (inl bare) = inl bare
few_bounds m new (inr few) =
    let count : length (bounds_from m.setting.bounds 0 m.next) ≡ m.next = own_count m.setting.bounds 0 m.next (λ q lt. new_in_force m new q (omega arith)) in
    inr (omega (arith, count))

pub head_is : (m : Machine) (version : ℕ) → IsNewExecutive m → IsLawful m.setting → (m.kind ≡ Bare) ⊎ (m.next ≤ 65_535) → IsVersion version → (version ≡ 1 → lags_of m ≡ []) → IsHead (head_of version m)
head_is m version new lawful few is none =
    record {
      version = is;
      events = lawful.events;
      horizon = lawful.horizon;
      own = own_fits m.kind (bounds_from m.setting.bounds 0 m.next) (few_bounds m new few) (all_writable m.setting.bounds 0 m.next (λ k b h. suited m.setting b lawful.events (lawful.in_force k b h)));
      lags = lags_are 0 0 (event_count m.setting) m.setting.lags (omega arith) (omega (arith, lawful.lags)) lawful.lag;
      first_version = none;
    }

own_few : (k : Kind) (bounds : List Bound) → MatchOption (own_by k bounds) (Unit {0}) (λ bs. (length bs ≤ 65_535) × All IsWritable bs) → (k ≡ Bare) ⊎ (length bounds ≤ 65_535)
own_few Bare bounds h = inl refl
own_few Kept bounds h = inr h.0
own_few Altered bounds h = inr h.0

pub head_few : (m : Machine) (version : ℕ) → IsNewExecutive m → IsHead (head_of version m) → (m.kind ≡ Bare) ⊎ (m.next ≤ 65_535)
head_few m version new h =
    elim (own_few m.kind (bounds_from m.setting.bounds 0 m.next) h.own) [
      | inl bare ↦ inl bare
      | inr few ↦
          let count : length (bounds_from m.setting.bounds 0 m.next) ≡ m.next = own_count m.setting.bounds 0 m.next (λ q lt. new_in_force m new q (omega arith)) in
          inr (omega (arith, count))
    ]
