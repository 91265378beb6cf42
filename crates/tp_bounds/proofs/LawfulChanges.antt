-- The numbers of a setting stay in range under its changes.
use Rattle.std.proofs.Common.{◌≡◌, ℕ, zero, suc, ◌<◌, ◌≤◌, inl, inr, List, length, get_or, set, replicate, Option, Some, None, IfSome, refl, sym, ap, subst, ◌∙◌, arith, get_or-set_other, get_or-set_same}
use Rattle.std.proofs.Math.ListN.{length-set, length-replicate}
use Rattle.std.proofs.lemmas.Bool.{cases_eq}
use Rattle.std.specs.Ordering.{nat_cmp}
use Rattle.std.specs.FinMap.{get, empty, get-empty}
use Rattle.tp_bounds.specs.declared.Point.{Point}
use Rattle.tp_bounds.specs.declared.Point.TheVariants.{Origin, Event}
use Rattle.tp_bounds.specs.declared.Bound.{Bound}
use Rattle.tp_bounds.specs.Setting.{Setting, event_count, HasPoint}
use Rattle.tp_bounds.specs.Changes.{fresh, with_bound, without_bound, asking, at_moment, with_fixed, with_lag}
use Rattle.tp_bounds.specs.Lawful.{Suits, IsLawful}
use Rattle.tp_bounds.proofs.HeldMaps.{inserted, removed}

-- ---- a bound that suits one setting suits another of as many events

same_point : (s r : Setting) → event_count s ≡ event_count r → (p : Point) → HasPoint s p → HasPoint r p
same_point s r same Origin h = tt
same_point s r same (Event e) h = subst (λ n. e < n) same h

suits : (s r : Setting) → event_count s ≡ event_count r → (b : Bound) → Suits s b → Suits r b
suits s r same b h =
    record {
      from = same_point s r same b.from h.from;
      to = same_point s r same b.to h.to;
      weight = h.weight;
    }

-- ---- the changes

none_held : (id : ℕ) (b : Bound) → get (empty {X = Bound} {R = nat_cmp}) id ≡ Some b → ⊥
none_held id b h = let f : None ≡ Some b = sym (get-empty nat_cmp id) ∙ h in let g : ⊥ = cc in g

replicate_none : (n k : ℕ) → get_or (replicate {A = Option ℕ} n None) k None ≡ None
replicate_none zero k = refl
replicate_none (suc n) zero = refl
replicate_none (suc n) (suc k) = replicate_none n k

replicate_zero : (n k : ℕ) → get_or (replicate {A = ℕ} n 0) k 0 ≡ 0
replicate_zero zero k = refl
replicate_zero (suc n) zero = refl
replicate_zero (suc n) (suc k) = replicate_zero n k

pub lawful_fresh : (events horizon : ℕ) → events ≤ 1_024 → horizon ≤ 1_000_000_000 → IsLawful (fresh events horizon)
lawful_fresh events horizon few soon =
    record {
      events = omega (arith, length-replicate {A = Option ℕ} events None);
      horizon = soon;
      in_time = omega arith;
      past = λ e m is. let f : None ≡ Some m = sym (replicate_none events e) ∙ is in let g : ⊥ = cc in absurd g;
      lags = length-replicate {A = ℕ} events 0 ∙ sym (length-replicate {A = Option ℕ} events None);
      lag = λ e. omega (arith, replicate_zero events e);
      in_force = λ id b is. absurd (none_held id b is);
      proposed = λ b is. let g : ⊥ = cc in absurd g;
    }

pub lawful_put : (s : Setting) (id : ℕ) (b : Bound) → IsLawful s → Suits s b → IsLawful (with_bound s id b)
lawful_put s id b h new =
    record {
      events = h.events;
      horizon = h.horizon;
      in_time = h.in_time;
      past = h.past;
      lags = h.lags;
      lag = h.lag;
      in_force = λ q c is. suits s (with_bound s id b) refl c (elim (inserted s.bounds id q b c is) [ inl p ↦ subst (Suits s) p.1 new | inr p ↦ h.in_force q c p ]);
      proposed = λ c is. suits s (with_bound s id b) refl c (h.proposed c is);
    }

pub lawful_taken : (s : Setting) (id : ℕ) → IsLawful s → IsLawful (without_bound s id)
lawful_taken s id h =
    record {
      events = h.events;
      horizon = h.horizon;
      in_time = h.in_time;
      past = h.past;
      lags = h.lags;
      lag = h.lag;
      in_force = λ q c is. suits s (without_bound s id) refl c (h.in_force q c (removed s.bounds id q c is));
      proposed = λ c is. suits s (without_bound s id) refl c (h.proposed c is);
    }

from_if : (s : Setting) (o : Option Bound) (b : Bound) → IfSome o (Suits s) → o ≡ Some b → Suits s b
from_if s None b h is = absurd (let f : ⊥ = cc in f)
from_if s (Some c) b h is = subst (Suits s) (let f : c ≡ b = cc in f) h

pub lawful_asking : (s : Setting) (o : Option Bound) → IsLawful s → IfSome o (Suits s) → IsLawful (asking s o)
lawful_asking s o h new =
    record {
      events = h.events;
      horizon = h.horizon;
      in_time = h.in_time;
      past = h.past;
      lags = h.lags;
      lag = h.lag;
      in_force = λ q c is. suits s (asking s o) refl c (h.in_force q c is);
      proposed = λ c is. suits s (asking s o) refl c (from_if s o c new is);
    }

pub lawful_raised : (s : Setting) (now : ℕ) → IsLawful s → now ≤ s.horizon → IsLawful (at_moment s now)
lawful_raised s now h soon =
    record {
      events = h.events;
      horizon = h.horizon;
      in_time = soon;
      past = h.past;
      lags = h.lags;
      lag = h.lag;
      in_force = λ q c is. suits s (at_moment s now) refl c (h.in_force q c is);
      proposed = λ c is. suits s (at_moment s now) refl c (h.proposed c is);
    }

past_set : (fixed : List (Option ℕ)) (e moment last : ℕ) → e < length fixed → moment ≤ last → ((k m : ℕ) → get_or fixed k None ≡ Some m → m ≤ last) → (k m : ℕ) → get_or (set fixed e (Some moment)) k None ≡ Some m → m ≤ last
past_set fixed e moment last lt soon old k m is =
    elim (cases_eq k e) [
      | inl same ↦
          let at : get_or (set fixed e (Some moment)) k None ≡ Some moment = ap (λ i. get_or (set fixed e (Some moment)) i None) same ∙ get_or-set_same fixed e (Some moment) None lt in
          let f : Some m ≡ Some moment = sym is ∙ at in
          let g : m ≡ moment = cc in
          omega arith
      | inr ne ↦ old k m (sym (get_or-set_other fixed e k (Some moment) None ne) ∙ is)
    ]

pub lawful_fixed : (s : Setting) (e moment : ℕ) → IsLawful s → e < event_count s → moment ≤ s.horizon → IsLawful (with_fixed s e moment)
lawful_fixed s e moment h lt soon =
    let same : event_count s ≡ event_count (with_fixed s e moment) = sym (length-set s.fixed e (Some moment)) in
    record {
      events = subst (λ n. n ≤ 1_024) same h.events;
      horizon = h.horizon;
      in_time = h.in_time;
      past = past_set s.fixed e moment s.horizon lt soon h.past;
      lags = h.lags ∙ same;
      lag = h.lag;
      in_force = λ q c is. suits s (with_fixed s e moment) same c (h.in_force q c is);
      proposed = λ c is. suits s (with_fixed s e moment) same c (h.proposed c is);
    }

pub lag_set : (lags : List ℕ) (e lag last : ℕ) → e < length lags → lag ≤ last → ((k : ℕ) → get_or lags k 0 ≤ last) → (k : ℕ) → get_or (set lags e lag) k 0 ≤ last
lag_set lags e lag last lt few old k =
    elim (cases_eq k e) [
      | inl same ↦
          let at : get_or (set lags e lag) k 0 ≡ lag = ap (λ i. get_or (set lags e lag) i 0) same ∙ get_or-set_same lags e lag 0 lt in
          omega arith
      | inr ne ↦
          let at : get_or (set lags e lag) k 0 ≡ get_or lags k 0 = get_or-set_other lags e k lag 0 ne in
          let was : get_or lags k 0 ≤ last = old k in
          omega arith
    ]

pub lawful_lagged : (s : Setting) (e lag : ℕ) → IsLawful s → e < event_count s → lag ≤ 1_000_000_000 → IsLawful (with_lag s e lag)
lawful_lagged s e lag h lt few =
    record {
      events = h.events;
      horizon = h.horizon;
      in_time = h.in_time;
      past = h.past;
      lags = length-set s.lags e lag ∙ h.lags;
      lag = lag_set s.lags e lag 1_000_000_000 (omega (arith, h.lags)) few h.lag;
      in_force = λ q c is. suits s (with_lag s e lag) refl c (h.in_force q c is);
      proposed = λ c is. suits s (with_lag s e lag) refl c (h.proposed c is);
    }
