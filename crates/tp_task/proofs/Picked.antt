-- The events of a list that happen at one moment.
use Rattle.std.proofs.Common.{◌≡◌, ◌≢◌, ℕ, ◌<◌, Bool, true, false, cond, not, ◌||◌, List, [], ◌∷◌, map, ◌⊎◌, inl, inr, ⊎_elim, refl, sym, ◌∙◌, ap, subst, Option, ℤ, pos, ◌+ℤ◌, filter}
use Rattle.std.specs.List.{list_any, list_all, AllByRecursion}
use Rattle.std.proofs.lemmas.Bool.{or_parts, or_cases, and_parts, and_from, cases_Bool, not-true, not_from_false, cond-true, cond-false}
use Rattle.std.proofs.Math.IntN.{+ℤ_idl}
use Rattle.tp_task.specs.declared.events.GroundEvent.{GroundEvent}
use Rattle.tp_task.specs.State.{State, units}
use Rattle.tp_task.specs.Event.{has, interferes, disturbs, fluents_set}
use Rattle.tp_task.specs.Happens.{EventOfStep, set_in, added_in, set_by, added_by, apart}
use Rattle.tp_task.specs.Valid.{Placed}
use Rattle.tp_task.specs.Bounds.{In}
use Rattle.tp_task.proofs.Lists.{total}

-- an event with these ticks; the events that pass, with their ticks
abbrev pub timed_by : (Placed → ℕ) → Placed → EventOfStep
timed_by ticks e = record { event = e.timed.event; ticks = ticks e }

abbrev pub picked : (Placed → Bool) → (Placed → ℕ) → List Placed → List EventOfStep
picked pick ticks es = map (timed_by ticks) (filter pick es)

-- the numbers rise
abbrev pub Rising : List Placed → Type 0
Rising [] = Unit {0}
Rising (e ∷ es) = ((f : Placed) → In f es → e.number < f.number) × Rising es

pub both_ways : (b : Bool) → b ≡ true → b ≡ false → ⊥
both_ways b p q = cc

module _ (pick : Placed → Bool) (ticks : Placed → ℕ) where
  pub picked_yes : (x : Placed) (es : List Placed) → pick x ≡ true → picked pick ticks (x ∷ es) ≡ timed_by ticks x ∷ picked pick ticks es
  picked_yes x es p = ap (map (timed_by ticks)) (cond-true (pick x) _ _ p)

  pub picked_no : (x : Placed) (es : List Placed) → pick x ≡ false → picked pick ticks (x ∷ es) ≡ picked pick ticks es
  picked_no x es p = ap (map (timed_by ticks)) (cond-false (pick x) _ _ p)

  -- what holds of each event that is picked
  pub all_picked_at : (P : EventOfStep → Type 0) (es : List Placed) → AllByRecursion P (picked pick ticks es) → (e : Placed) → In e es → pick e ≡ true → P (timed_by ticks e)
  all_picked_at P [] h e i p = absurd i
  all_picked_at P (x ∷ es) h e (inl w) p = let h' : AllByRecursion P (timed_by ticks x ∷ picked pick ticks es) = subst (AllByRecursion P) (picked_yes x es (subst (λ y. pick y ≡ true) w p)) h in subst (λ y. P (timed_by ticks y)) (sym w) h'.0
  all_picked_at P (x ∷ es) h e (inr j) p =
      ⊎_elim
      (λ q. let h' : AllByRecursion P (timed_by ticks x ∷ picked pick ticks es) = subst (AllByRecursion P) (picked_yes x es q) h in all_picked_at P es h'.1 e j p)
      (λ q. all_picked_at P es (subst (AllByRecursion P) (picked_no x es q) h) e j p)
      (cases_Bool (pick x))

  pub all_picked_from : (P : EventOfStep → Type 0) (es : List Placed) → ((e : Placed) → In e es → pick e ≡ true → P (timed_by ticks e)) → AllByRecursion P (picked pick ticks es)
  all_picked_from P [] f = tt
  all_picked_from P (x ∷ es) f =
      ⊎_elim
      (λ q. subst (AllByRecursion P) (sym (picked_yes x es q)) (f x (inl refl) q, all_picked_from P es (λ e i. f e (inr i))))
      (λ q. subst (AllByRecursion P) (sym (picked_no x es q)) (all_picked_from P es (λ e i. f e (inr i))))
      (cases_Bool (pick x))

  -- some event that is picked passes a test, or none does
  pub any_picked : (q : GroundEvent → Bool) (es : List Placed) → list_any (λ t. q t.event) (picked pick ticks es) ≡ true → (e : Placed) × In e es × (pick e ≡ true) × (q e.timed.event ≡ true)
  any_picked q [] h = absurd (cc)
  any_picked q (x ∷ es) h =
      ⊎_elim
      (λ p. ⊎_elim (λ r. (x, inl refl, p, r)) (λ r. later (any_picked q es r)) (or_cases (q x.timed.event) _ (subst (λ ts. list_any (λ t. q t.event) ts ≡ true) (picked_yes x es p) h)))
      (λ p. later (any_picked q es (subst (λ ts. list_any (λ t. q t.event) ts ≡ true) (picked_no x es p) h)))
      (cases_Bool (pick x))
    where
      later : (e : Placed) × In e es × (pick e ≡ true) × (q e.timed.event ≡ true) → (e : Placed) × In e (x ∷ es) × (pick e ≡ true) × (q e.timed.event ≡ true)
      later (e, i, p, r) = (e, inr i, p, r)

  pub none_picked : (q : GroundEvent → Bool) (es : List Placed) → list_any (λ t. q t.event) (picked pick ticks es) ≡ false → (e : Placed) → In e es → pick e ≡ true → q e.timed.event ≡ false
  none_picked q [] h e i p = absurd i
  none_picked q (x ∷ es) h e (inl w) p = subst (λ (y : Placed). q y.timed.event ≡ false) (sym w) (or_parts (q x.timed.event) _ (subst (λ ts. list_any (λ t. q t.event) ts ≡ false) (picked_yes x es (subst (λ y. pick y ≡ true) w p)) h)).0
  none_picked q (x ∷ es) h e (inr j) p =
      ⊎_elim
      (λ r. none_picked q es (or_parts (q x.timed.event) _ (subst (λ ts. list_any (λ t. q t.event) ts ≡ false) (picked_yes x es r) h)).1 e j p)
      (λ r. none_picked q es (subst (λ ts. list_any (λ t. q t.event) ts ≡ false) (picked_no x es r) h) e j p)
      (cases_Bool (pick x))

  -- what they add to a fluent
  pub added_picked : (scale : ℕ) (s : State) (f : ℕ) (es : List Placed) → added_by scale s (picked pick ticks es) f ≡ total pick (λ e. added_in s (units scale (ticks e)) e.timed.event.writes.items f) es
  added_picked scale s f [] = refl
  added_picked scale s f (x ∷ es) = go (pick x) (added_picked scale s f es)
    where
      go : (b : Bool) → added_by scale s (picked pick ticks es) f ≡ total pick (λ e. added_in s (units scale (ticks e)) e.timed.event.writes.items f) es → added_by scale s (map (timed_by ticks) (cond b (x ∷ filter pick es) (filter pick es))) f ≡ cond b (added_in s (units scale (ticks x)) x.timed.event.writes.items f) (pos 0) +ℤ total pick (λ e. added_in s (units scale (ticks e)) e.timed.event.writes.items f) es
      go true h = ap (λ z. added_in s (units scale (ticks x)) x.timed.event.writes.items f +ℤ z) h
      go false h = h ∙ sym (+ℤ_idl _)

-- one of the events that are picked sets the fluent, and the result is what it sets it to; or none does
pub record Setter (pick : Placed → Bool) (ticks : Placed → ℕ) (scale : ℕ) (s : State) (f : ℕ) (other : Option ℤ) (es : List Placed) (result : Option ℤ) : Type 0 where
  pub event : Placed
  pub is_in : In event es
  pub is_picked : pick event ≡ true
  pub sets : has (fluents_set event.timed.event) f ≡ true
  pub result_is : result ≡ set_in s (units scale (ticks event)) event.timed.event.writes.items f other

pub record NoSetter (pick : Placed → Bool) (f : ℕ) (other : Option ℤ) (es : List Placed) (result : Option ℤ) : Type 0 where
  pub none : (e : Placed) → In e es → pick e ≡ true → has (fluents_set e.timed.event) f ≡ false
  pub result_is : result ≡ other

module _ (pick : Placed → Bool) (ticks : Placed → ℕ) (scale : ℕ) (s : State) (f : ℕ) (other : Option ℤ) where
  skip : (x : Placed) (es : List Placed) (r r' : Option ℤ) → r' ≡ r → (pick x ≡ true → has (fluents_set x.timed.event) f ≡ false) → Setter pick ticks scale s f other es r ⊎ NoSetter pick f other es r → Setter pick ticks scale s f other (x ∷ es) r' ⊎ NoSetter pick f other (x ∷ es) r'
  skip x es r r' e n (inl h) = inl (record { event = h.event; is_in = inr h.is_in; is_picked = h.is_picked; sets = h.sets; result_is = e ∙ h.result_is })
  skip x es r r' e n (inr h) = inr (record { none = λ y i p. ⊎_elim (λ w. subst (λ (z : Placed). has (fluents_set z.timed.event) f ≡ false) (sym w) (n (subst (λ z. pick z ≡ true) w p))) (λ j. h.none y j p) i; result_is = e ∙ h.result_is })

  pub set_picked : (es : List Placed) → Setter pick ticks scale s f other es (set_by scale s (picked pick ticks es) f other) ⊎ NoSetter pick f other es (set_by scale s (picked pick ticks es) f other)
  set_picked [] = inr (record { none = λ e i p. absurd i; result_is = refl })
  set_picked (x ∷ es) =
      ⊎_elim
      (λ p. ⊎_elim
      (λ h. inl (record { event = x; is_in = inl refl; is_picked = p; sets = h; result_is = ap (λ ts. set_by scale s ts f other) (picked_yes pick ticks x es p) ∙ cond-true (has (fluents_set x.timed.event) f) _ _ h }))
      (λ h. skip x es _ _ (ap (λ ts. set_by scale s ts f other) (picked_yes pick ticks x es p) ∙ cond-false (has (fluents_set x.timed.event) f) _ _ h) (λ _. h) (set_picked es))
      (cases_Bool (has (fluents_set x.timed.event) f)))
      (λ p. skip x es _ _ (ap (λ ts. set_by scale s ts f other) (picked_no pick ticks x es p)) (λ q. absurd (both_ways (pick x) q p)) (set_picked es))
      (cases_Bool (pick x))

-- no two events that are picked interfere
interferes_sym : (a b : GroundEvent) → interferes a b ≡ interferes b a
interferes_sym a b = or_comm (disturbs a b) (disturbs b a)
  where
    or_comm : (x y : Bool) → (x || y) ≡ (y || x)
    or_comm true true = refl
    or_comm true false = refl
    or_comm false true = refl
    or_comm false false = refl

module _ (pick : Placed → Bool) (ticks : Placed → ℕ) where
  pub each_apart : (x : Placed) (es : List Placed) → list_all (λ (u : EventOfStep). not (interferes x.timed.event u.event)) (picked pick ticks es) ≡ true → (e : Placed) → In e es → pick e ≡ true → interferes x.timed.event e.timed.event ≡ false
  each_apart x [] h e i p = absurd i
  each_apart x (y ∷ es) h e (inl w) p = subst (λ (z : Placed). interferes x.timed.event z.timed.event ≡ false) (sym w) (not-true _ (and_parts (not (interferes x.timed.event y.timed.event)) _ (subst (λ ts. list_all (λ (u : EventOfStep). not (interferes x.timed.event u.event)) ts ≡ true) (picked_yes pick ticks y es (subst (λ z. pick z ≡ true) w p)) h)).0)
  each_apart x (y ∷ es) h e (inr j) p =
      ⊎_elim
      (λ r. each_apart x es (and_parts (not (interferes x.timed.event y.timed.event)) _ (subst (λ ts. list_all (λ (u : EventOfStep). not (interferes x.timed.event u.event)) ts ≡ true) (picked_yes pick ticks y es r) h)).1 e j p)
      (λ r. each_apart x es (subst (λ ts. list_all (λ (u : EventOfStep). not (interferes x.timed.event u.event)) ts ≡ true) (picked_no pick ticks y es r) h) e j p)
      (cases_Bool (pick y))

  pub apart_at : (es : List Placed) → apart (picked pick ticks es) ≡ true → (a b : Placed) → In a es → In b es → pick a ≡ true → pick b ≡ true → a.number ≢ b.number → interferes a.timed.event b.timed.event ≡ false
  apart_at [] h a b i j p q n = absurd i
  apart_at (x ∷ es) h a b (inl v) (inl w) p q n = absurd (n (ap (λ (z : Placed). z.number) (v ∙ sym w)))
  apart_at (x ∷ es) h a b (inl v) (inr j) p q n = subst (λ (z : Placed). interferes z.timed.event b.timed.event ≡ false) (sym v) (each_apart x es (and_parts _ (apart (picked pick ticks es)) (subst (λ ts. apart ts ≡ true) (picked_yes pick ticks x es (subst (λ z. pick z ≡ true) v p)) h)).0 b j q)
  apart_at (x ∷ es) h a b (inr i) (inl w) p q n = interferes_sym a.timed.event b.timed.event ∙ subst (λ (z : Placed). interferes z.timed.event a.timed.event ≡ false) (sym w) (each_apart x es (and_parts _ (apart (picked pick ticks es)) (subst (λ ts. apart ts ≡ true) (picked_yes pick ticks x es (subst (λ z. pick z ≡ true) w q)) h)).0 a i p)
  apart_at (x ∷ es) h a b (inr i) (inr j) p q n =
      ⊎_elim
      (λ r. apart_at es (and_parts _ (apart (picked pick ticks es)) (subst (λ ts. apart ts ≡ true) (picked_yes pick ticks x es r) h)).1 a b i j p q n)
      (λ r. apart_at es (subst (λ ts. apart ts ≡ true) (picked_no pick ticks x es r) h) a b i j p q n)
      (cases_Bool (pick x))

  pub each_from : (x : Placed) (es : List Placed) → ((e : Placed) → In e es → pick e ≡ true → interferes x.timed.event e.timed.event ≡ false) → list_all (λ (u : EventOfStep). not (interferes x.timed.event u.event)) (picked pick ticks es) ≡ true
  each_from x [] f = refl
  each_from x (y ∷ es) f =
      ⊎_elim
      (λ r. subst (λ ts. list_all (λ (u : EventOfStep). not (interferes x.timed.event u.event)) ts ≡ true) (sym (picked_yes pick ticks y es r)) (and_from (not (interferes x.timed.event y.timed.event)) _ (not_from_false _ (f y (inl refl) r)) (each_from x es (λ e i. f e (inr i)))))
      (λ r. subst (λ ts. list_all (λ (u : EventOfStep). not (interferes x.timed.event u.event)) ts ≡ true) (sym (picked_no pick ticks y es r)) (each_from x es (λ e i. f e (inr i))))
      (cases_Bool (pick y))

  pub apart_from : (es : List Placed) → Rising es → ((a b : Placed) → In a es → In b es → pick a ≡ true → pick b ≡ true → a.number < b.number → interferes a.timed.event b.timed.event ≡ false) → apart (picked pick ticks es) ≡ true
  apart_from [] r f = refl
  apart_from (x ∷ es) r f =
      ⊎_elim
      (λ p. subst (λ ts. apart ts ≡ true) (sym (picked_yes pick ticks x es p)) (and_from _ (apart (picked pick ticks es)) (each_from x es (λ e i q. f x e (inl refl) (inr i) p q (r.0 e i))) (apart_from es r.1 (λ a b i j. f a b (inr i) (inr j)))))
      (λ p. subst (λ ts. apart ts ≡ true) (sym (picked_no pick ticks x es p)) (apart_from es r.1 (λ a b i j. f a b (inr i) (inr j))))
      (cases_Bool (pick x))
