-- One variable that events put to a value or shift: what it is before a moment depends only on which of its
-- writers lie before the moment, and on the order of those that interfere.
use Rattle.std.proofs.Common.{◌≡◌, ℕ, suc, ◌+◌, ◌≤◌, ◌<◌, Bool, true, false, cond, nat_lt, nat_le, ◌&&◌, ◌==◌, List, ℤ, pos, ◌+ℤ◌, ◌⊎◌, inl, inr, ⊎_elim, refl, sym, ◌∙◌, ap, ap₂, arith}
use Rattle.std.proofs.lemmas.Bool.{cases_order}
use Rattle.std.proofs.Math.IntN.{+ℤ_idl, +ℤ_idr}
use Rattle.std.proofs.lemmas.Bool.Decides.{nat_tests}
use Rattle.tp_task.specs.Bounds.{In}
use Rattle.tp_task.proofs.Lists.{total, total_same, total_parts, total_none}

-- A variable with values in V under events of E.
pub record Register (E V : Type 0) : Type 0 where
  pub events : List E
  pub initial : V
  -- what a sum of shifts does
  pub shifted : ℤ → V → V
  pub shifted_zero : (v : V) → shifted (pos 0) v ≡ v
  pub shifted_sum : (a b : ℤ) (v : V) → shifted (a +ℤ b) v ≡ shifted b (shifted a v)
  -- the event writes the variable; it puts it to a value; the value; the shift
  pub writes : E → Bool
  pub puts : E → Bool
  pub value : E → V
  pub shift : E → ℤ
  pub puts_writes : (e : E) → puts e ≡ true → writes e ≡ true
  pub shift_writes : (e : E) → writes e ≡ false → shift e ≡ pos 0

-- from one moment to before another
abbrev pub within : ℕ → ℕ → ℕ → Bool
within low high m = nat_le low m && nat_lt m high

-- the last event that puts the variable to a value lies just before this moment, or it is the start
abbrev pub Since : {E V : Type 0} → Register E V → (E → ℕ) → ℕ → V → Type 0
Since {E} {V} r when m c = ((m ≡ 0) × (c ≡ r.initial)) ⊎ ((s : E) × In s r.events × (r.puts s ≡ true) × (m ≡ suc (when s)) × (c ≡ r.value s))

-- before moment t the variable is v
pub record IsAt {E V : Type 0} (r : Register E V) (when : E → ℕ) (t : ℕ) (v : V) : Type 0 where
  pub since : ℕ
  pub base : V
  pub is_since : Since r when since base
  pub no_later : since ≤ t
  pub last : (e : E) → In e r.events → r.puts e ≡ true → when e < t → when e < since
  pub is : v ≡ r.shifted (total (λ e. within since t (when e)) r.shift r.events) base

-- the start
pub at_start : {E V : Type 0} (r : Register E V) (when : E → ℕ) → IsAt r when 0 r.initial
at_start {E} r when =
    record {
      since = 0;
      base = r.initial;
      is_since = inl (refl, refl);
      no_later = omega arith;
      last = λ e i p h. h;
      is = sym (ap (λ z. r.shifted z r.initial) (total_none _ r.shift r.events (λ e i. none (when e) (r.shift e))) ∙ r.shifted_zero r.initial);
    }
  where
    none : (m : ℕ) (x : ℤ) → cond (within 0 0 m) x (pos 0) ≡ pos 0
    none m x = grind (arith, nat_tests)

-- an event puts it to a value
pub at_put : {E V : Type 0} (r : Register E V) (when : E → ℕ) (t : ℕ) (s : E) → In s r.events → r.puts s ≡ true → when s ≡ t → IsAt r when (t + 1) (r.value s)
at_put {E} r when t s i p e =
    record {
      since = suc t;
      base = r.value s;
      is_since = inr (s, i, p, ap suc (sym e), refl);
      no_later = omega arith;
      last = λ e i p h. omega arith;
      is = sym (ap (λ z. r.shifted z (r.value s)) (total_none _ r.shift r.events (λ e i. none (when e) (r.shift e))) ∙ r.shifted_zero (r.value s));
    }
  where
    none : (m : ℕ) (x : ℤ) → cond (within (suc t) (t + 1) m) x (pos 0) ≡ pos 0
    none m x = grind (arith, nat_tests)

one_more : (low t m : ℕ) (x : ℤ) → low ≤ t → cond (within low (t + 1) m) x (pos 0) ≡ cond (within low t m) x (pos 0) +ℤ cond (m == t) x (pos 0)
one_more low t m x h = go (cases_order m t)
  where
    same : {b c d : Bool} → b ≡ c → d ≡ false → cond b x (pos 0) ≡ cond c x (pos 0) +ℤ cond d x (pos 0)
    same {b} {c} {d} e f = ap (λ y. cond y x (pos 0)) e ∙ (sym (+ℤ_idr _) ∙ ap (λ y. cond c x (pos 0) +ℤ cond y x (pos 0)) (sym f))

    here : {b c d : Bool} → b ≡ true → c ≡ false → d ≡ true → cond b x (pos 0) ≡ cond c x (pos 0) +ℤ cond d x (pos 0)
    here {b} {c} {d} e f g = ap (λ y. cond y x (pos 0)) e ∙ (sym (+ℤ_idl x) ∙ ap₂ (λ y z. cond y x (pos 0) +ℤ cond z x (pos 0)) (sym f) (sym g))

    go : (m ≡ t) ⊎ ((m < t) ⊎ (t < m)) → cond (within low (t + 1) m) x (pos 0) ≡ cond (within low t m) x (pos 0) +ℤ cond (m == t) x (pos 0)
    go (inl e) = here (grind (arith, nat_tests)) (grind (arith, nat_tests)) (grind (arith, nat_tests))
    go (inr (inl l)) = same (grind (arith, nat_tests)) (grind (arith, nat_tests))
    go (inr (inr l)) = same (grind (arith, nat_tests)) (grind (arith, nat_tests))

-- no event puts it to a value, some may shift it
pub at_shift : {E V : Type 0} (r : Register E V) (when : E → ℕ) (t : ℕ) (v : V) → IsAt r when t v → ((e : E) → In e r.events → r.puts e ≡ true → when e ≡ t → ⊥) → IsAt r when (t + 1) (r.shifted (total (λ e. when e == t) r.shift r.events) v)
at_shift {E} r when t v h none =
    record {
      since = h.since;
      base = h.base;
      is_since = h.is_since;
      no_later = omega (arith, h.no_later);
      last = λ e i p b. ⊎_elim (λ lt. h.last e i p lt) (λ eq. absurd (none e i p eq)) (below (when e) t b);
      is = ap (r.shifted (total (λ e. when e == t) r.shift r.events)) h.is ∙ (sym (r.shifted_sum _ _ h.base) ∙ ap (λ z. r.shifted z h.base) (sym (total_parts _ _ _ r.shift r.events (λ e i. one_more h.since t (when e) (r.shift e) h.no_later))));
    }
  where
    below : (a b : ℕ) → a < b + 1 → (a < b) ⊎ (a ≡ b)
    below a b h = grind arith

-- Two events keep their order.
abbrev pub Agrees : {E : Type 0} → (E → ℕ) → (E → ℕ) → E → E → Type 0
Agrees old new a b = ((old a < old b) × (new a < new b)) ⊎ ((old b < old a) × (new b < new a))

-- The same writers lie before the two moments.
abbrev pub SameBefore : {E V : Type 0} → Register E V → (E → ℕ) → ℕ → (E → ℕ) → ℕ → Type 0
SameBefore {E} r old u new t = (e : E) → In e r.events → r.writes e ≡ true → ((old e < u → new e < t) × (new e < t → old e < u))

-- Writers of which one puts a value keep their order, unless both put the same one.
pub record Ordered {E V : Type 0} (r : Register E V) (old new : E → ℕ) : Type 0 where
  pub puts_put : (a b : E) → In a r.events → In b r.events → r.puts a ≡ true → r.puts b ≡ true → (r.value a ≡ r.value b) ⊎ Agrees old new a b
  pub put_shift : (a b : E) → In a r.events → In b r.events → r.puts a ≡ true → r.puts b ≡ false → r.writes b ≡ true → Agrees old new a b

in_window : (x : ℤ) (s t m : ℕ) (s' t' m' : ℕ) → ((s ≤ m) × (m < t) → (s' ≤ m') × (m' < t')) → ((s' ≤ m') × (m' < t') → (s ≤ m) × (m < t)) → cond (within s t m) x (pos 0) ≡ cond (within s' t' m') x (pos 0)
in_window x s t m s' t' m' f g = grind (arith, nat_tests)

cond_zero : (b c : Bool) (x : ℤ) → x ≡ pos 0 → cond b x (pos 0) ≡ cond c x (pos 0)
cond_zero true true x e = refl
cond_zero true false x e = e
cond_zero false true x e = sym e
cond_zero false false x e = refl

outside : (x : ℤ) (s t m s' t' m' : ℕ) → (m < t → m < s) → (m' < t' → m' < s') → cond (within s t m) x (pos 0) ≡ cond (within s' t' m') x (pos 0)
outside x s t m s' t' m' f g = in_window x s t m s' t' m' (λ h. absurd (omega (arith, f h.1))) (λ h. absurd (omega (arith, g h.1)))

module _ {E V : Type 0} (r : Register E V) (old new : E → ℕ) (u t : ℕ) (v w : V) (o : Ordered r old new) (b : SameBefore r old u new t) (h : IsAt r old u v) (k : IsAt r new t w) where
  same_term : ((e : E) → In e r.events → r.writes e ≡ true → r.puts e ≡ false → (((h.since ≤ old e) × (old e < u) → (k.since ≤ new e) × (new e < t)) × ((k.since ≤ new e) × (new e < t) → (h.since ≤ old e) × (old e < u)))) → (e : E) → In e r.events → (p q : Bool) → r.puts e ≡ p → r.writes e ≡ q → cond (within h.since u (old e)) (r.shift e) (pos 0) ≡ cond (within k.since t (new e)) (r.shift e) (pos 0)
  same_term f e i true q ep eq = outside (r.shift e) h.since u (old e) k.since t (new e) (h.last e i ep) (k.last e i ep)
  same_term f e i false true ep eq = let g = f e i eq ep in in_window (r.shift e) h.since u (old e) k.since t (new e) g.0 g.1
  same_term f e i false false ep eq = cond_zero _ _ (r.shift e) (r.shift_writes e eq)

  from_bases : h.base ≡ k.base → ((e : E) → In e r.events → r.writes e ≡ true → r.puts e ≡ false → (((h.since ≤ old e) × (old e < u) → (k.since ≤ new e) × (new e < t)) × ((k.since ≤ new e) × (new e < t) → (h.since ≤ old e) × (old e < u)))) → v ≡ w
  from_bases c f = h.is ∙ (ap₂ r.shifted (total_same _ _ r.shift r.shift r.events (λ e i. same_term f e i (r.puts e) (r.writes e) refl refl)) c ∙ sym k.is)

  by_cases : Since r old h.since h.base → Since r new k.since k.base → v ≡ w
  by_cases (inl x) (inl y) = from_bases (x.1 ∙ sym y.1) (λ e i p q. let g = b e i p in ((λ z. (omega (arith, y.0), g.0 z.1)), (λ z. (omega (arith, x.0), g.1 z.1))))
  by_cases (inl x) (inr (s, i, p, m, c)) = absurd (let early : new s < t = omega (arith, m, k.no_later) in let lt : old s < h.since = h.last s i p ((b s i (r.puts_writes s p)).1 early) in omega (arith, x.0))
  by_cases (inr (s, i, p, m, c)) (inl y) = absurd (let early : old s < u = omega (arith, m, h.no_later) in let lt : new s < k.since = k.last s i p ((b s i (r.puts_writes s p)).0 early) in omega (arith, y.0))
  by_cases (inr (s, i, p, m, c)) (inr (s', i', p', m', c')) =
      from_bases (c ∙ (one_value (o.puts_put s s' i i' p p') ∙ sym c')) (λ e j q n. (forth e (o.put_shift s' e i' j p' n q) (b e j q), back e (o.put_shift s e i j p n q) (b e j q)))
    where
      early : new s ≤ new s'
      early = let before : old s < u = omega (arith, m, h.no_later) in let l : new s < k.since = k.last s i p ((b s i (r.puts_writes s p)).0 before) in omega (arith, m')

      late : old s' ≤ old s
      late = let before : new s' < t = omega (arith, m', k.no_later) in let l : old s' < h.since = h.last s' i' p' ((b s' i' (r.puts_writes s' p')).1 before) in omega (arith, m)

      one_value : (r.value s ≡ r.value s') ⊎ Agrees old new s s' → r.value s ≡ r.value s'
      one_value (inl e) = e
      one_value (inr (inl a)) = absurd (omega (arith, late, a.0))
      one_value (inr (inr a)) = absurd (omega (arith, early, a.1))

      forth : (e : E) → Agrees old new s' e → ((old e < u → new e < t) × (new e < t → old e < u)) → (h.since ≤ old e) × (old e < u) → (k.since ≤ new e) × (new e < t)
      forth e (inl a) g z = (omega (arith, a.1, m'), g.0 z.1)
      forth e (inr a) g z = absurd (omega (arith, a.0, late, z.0, m))

      back : (e : E) → Agrees old new s e → ((old e < u → new e < t) × (new e < t → old e < u)) → (k.since ≤ new e) × (new e < t) → (h.since ≤ old e) × (old e < u)
      back e (inl a) g z = (omega (arith, a.0, m), g.1 z.1)
      back e (inr a) g z = absurd (omega (arith, a.1, early, z.0, m'))

-- Then the variable is the same.
pub same_value : {E V : Type 0} (r : Register E V) (old new : E → ℕ) (u t : ℕ) (v w : V) → Ordered r old new → SameBefore r old u new t → IsAt r old u v → IsAt r new t w → v ≡ w
same_value r old new u t v w o b h k = by_cases r old new u t v w o b h k h.is_since k.is_since

-- The same events that put a value lie before the two moments.
abbrev pub SamePutsBefore : {E V : Type 0} → Register E V → (E → ℕ) → ℕ → (E → ℕ) → ℕ → Type 0
SamePutsBefore {E} r old u new t = (e : E) → In e r.events → r.puts e ≡ true → ((old e < u → new e < t) × (new e < t → old e < u))

-- Then the value put last is the same.
pub same_base : {E V : Type 0} (r : Register E V) (old new : E → ℕ) (u t : ℕ) (v w : V) → Ordered r old new → SamePutsBefore r old u new t → (h : IsAt r old u v) (k : IsAt r new t w) → h.base ≡ k.base
same_base {E} {V} r old new u t v w o b h k = go h.is_since k.is_since
  where
    go : Since r old h.since h.base → Since r new k.since k.base → h.base ≡ k.base
    go (inl x) (inl y) = x.1 ∙ sym y.1
    go (inl x) (inr (s, i, p, m, c)) = absurd (let early : new s < t = omega (arith, m, k.no_later) in let lt : old s < h.since = h.last s i p ((b s i p).1 early) in omega (arith, x.0))
    go (inr (s, i, p, m, c)) (inl y) = absurd (let early : old s < u = omega (arith, m, h.no_later) in let lt : new s < k.since = k.last s i p ((b s i p).0 early) in omega (arith, y.0))
    go (inr (s, i, p, m, c)) (inr (s', i', p', m', c')) =
        let early : new s < k.since = k.last s i p ((b s i p).0 (omega (arith, m, h.no_later))) in
        let late : old s' < h.since = h.last s' i' p' ((b s' i' p').1 (omega (arith, m', k.no_later))) in
        c ∙ (one (o.puts_put s s' i i' p p') (omega (arith, early, m')) (omega (arith, late, m)) ∙ sym c')
      where
        one : (r.value s ≡ r.value s') ⊎ Agrees old new s s' → new s ≤ new s' → old s' ≤ old s → r.value s ≡ r.value s'
        one (inl e) f g = e
        one (inr (inl a)) f g = absurd (omega (arith, a.0))
        one (inr (inr a)) f g = absurd (omega (arith, a.1))
