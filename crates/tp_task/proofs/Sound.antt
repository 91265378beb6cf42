-- A plan without a fault is valid.
use Rattle.std.proofs.Common.{◌≡◌, ℕ, suc, zero, ◌+◌, ◌-◌, ◌≤◌, ◌<◌, Bool, true, false, ◌&&◌, ◌==◌, nat_le, nat_lt, List, [], ◌∷◌, ⊎_elim, inl, inr, refl, sym, ap, ◌∙◌, subst, arith, add-one, Option, Some, None, pos, ◌*ℤ◌, is_some, eq-eqb}
use Rattle.std.specs.List.{list_all, position_from, AllByRecursion}
use Rattle.std.proofs.lemmas.Bool.{and_parts, and_from, and_cases, cases_Bool, not-false, cond-true, cond-false, leb-true, le-leb, lt-ltb, cases_lt, ne_eqb}
use Rattle.tp_task.specs.declared.events.Body.{Body}
use Rattle.tp_task.specs.declared.events.Body.TheVariants.{Instant, Durative}
use Rattle.tp_task.specs.declared.events.Cond.{Cond}
use Rattle.tp_task.specs.declared.events.Limit.{Limit}
use Rattle.tp_task.specs.State.{State, both, value, holds, compares_values}
use Rattle.tp_task.specs.Event.{interferes, mixes}
use Rattle.tp_task.specs.Happens.{is_defined, apart, atom_after, number_after}
use Rattle.tp_task.specs.Valid.{Planned, Placed, events, events_of, events_from, count_of, at, BodyHolds, IsRun, IsValidRun}
use Rattle.tp_task.specs.Bounds.{In}
use Rattle.tp_task.specs.Verdict as fault
use Rattle.tp_task.specs.Verdict.{Fault, states, is_unlawful, is_broken, pair_or, first_pair, fault_or, fault_at, last_moment}
use Rattle.tp_task.proofs.Lists.{all_at}
use Rattle.tp_task.proofs.Same.{holds_same}
use Rattle.tp_task.proofs.Picked.{both_ways, picked_yes, picked_no, all_picked_from, each_from}
use Rattle.tp_task.proofs.Numbered.{in_left, in_right}
use Rattle.tp_task.proofs.Bridge.{plus_zero}

none_passes : {X : Type 0} (p : X → Bool) (i : ℕ) (xs : List X) → position_from p i xs ≡ None → (x : X) → In x xs → p x ≡ false
none_passes p i [] h x k = absurd k
none_passes p i (y ∷ ys) h x k = ⊎_elim (λ e. absurd (let z = sym h ∙ cond-true (p y) (Some i) (position_from p (i + 1) ys) e in cc)) (λ e. ⊎_elim (λ w. subst (λ z. p z ≡ false) (sym w) e) (λ j. none_passes p (i + 1) ys (sym (cond-false (p y) (Some i) (position_from p (i + 1) ys) e) ∙ h) x j) k) (cases_Bool (p y))

first_none : {X : Type 0} (name : X → Fault) (r : Option X) (other : Option Fault) → fault_or name r other ≡ None → (r ≡ None) × (other ≡ None)
first_none name (Some x) other h = absurd (cc)
first_none name None other h = (refl, h)

-- a test at a moment that nothing passes
at_it : (a q : Bool) → (a && q) ≡ false → a ≡ true → q ≡ false
at_it a q h e = ⊎_elim (λ z. absurd (both_ways a e z)) (λ z. z) (and_cases a q h)

no_pair_step : (m i : ℕ) (e : Placed) (es : List Placed) → first_pair m i (e ∷ es) ≡ None → (position_from (λ (u : Placed). ((e.moment == m) && (u.moment == m)) && interferes e.timed.event u.timed.event) (i + 1) es ≡ None) × (first_pair m (i + 1) es ≡ None)
no_pair_step m i e es h = go (position_from (λ (u : Placed). ((e.moment == m) && (u.moment == m)) && interferes e.timed.event u.timed.event) (i + 1) es) h
  where
    go : (r : Option ℕ) → pair_or i r (first_pair m (i + 1) es) ≡ None → (r ≡ None) × (first_pair m (i + 1) es ≡ None)
    go (Some j) h = absurd (cc)
    go None h = (refl, h)

apart_at_moment : (m i : ℕ) (es : List Placed) → first_pair m i es ≡ None → apart (at m es) ≡ true
apart_at_moment m i [] h = refl
apart_at_moment m i (e ∷ es) h =
    let p = no_pair_step m i e es h in
    ⊎_elim
    (λ q. subst (λ ts. apart ts ≡ true) (sym (picked_yes (λ x. x.moment == m) (λ x. x.timed.ticks) e es q))
    (and_from _ (apart (at m es)) (each_from (λ x. x.moment == m) (λ x. x.timed.ticks) e es (λ u j w. at_it ((e.moment == m) && (u.moment == m)) _ (none_passes _ (i + 1) es p.0 u j) (and_from (e.moment == m) _ q w))) (apart_at_moment m (i + 1) es p.1)))
    (λ q. subst (λ ts. apart ts ≡ true) (sym (picked_no (λ x. x.moment == m) (λ x. x.timed.ticks) e es q)) (apart_at_moment m (i + 1) es p.1))
    (cases_Bool (e.moment == m))

-- a moment without events changes nothing
none_at : (m : ℕ) (es : List Placed) → ((e : Placed) → In e es → e.moment < m) → at m es ≡ []
none_at m [] f = refl
none_at m (e ∷ es) f = picked_no (λ x. x.moment == m) (λ x. x.timed.ticks) e es (ne_eqb e.moment m (λ q. omega (arith, q, f e (inl refl)))) ∙ none_at m es (λ x i. f x (inr i))

and_true : (x : Bool) → (x && true) ≡ x
and_true true = refl
and_true false = refl

later : ℕ → ℕ → ℕ
later zero m = m
later (suc d) m = later d (suc m)

later_is : (d m : ℕ) → later d m ≡ d + m
unfolding later
later_is zero m = omega arith
later_is (suc d) m = omega (arith, later_is d (suc m))

module _ (scale : ℕ) (initial : State) (es : List Placed) where
  still_atom : (a d m : ℕ) → ((e : Placed) → In e es → e.moment < m) → (states scale initial es (later d m)).atom a ≡ (states scale initial es m).atom a
  unfolding later
  still_atom a zero m f = refl
  still_atom a (suc d) m f = still_atom a d (suc m) (λ e i. omega (arith, f e i)) ∙ (ap (λ ts. atom_after (states scale initial es m) ts a) (none_at m es f) ∙ and_true ((states scale initial es m).atom a))

  still_number : (g d m : ℕ) → ((e : Placed) → In e es → e.moment < m) → (states scale initial es (later d m)).number g ≡ (states scale initial es m).number g
  unfolding later
  still_number g zero m f = refl
  still_number g (suc d) m f = still_number g d (suc m) (λ e i. omega (arith, f e i)) ∙ (ap (λ ts. number_after scale (states scale initial es m) ts g) (none_at m es f) ∙ plus_zero ((states scale initial es m).number g))

  -- what holds behind all events holds from then on, and did
  holds_still : (c : Cond) (m n : ℕ) → m ≤ n → ((e : Placed) → In e es → e.moment < m) → holds (states scale initial es n) c ≡ holds (states scale initial es m) c
  holds_still c m n l f =
      let is : later (n - m) m ≡ n = later_is (n - m) m ∙ (let z : n - m + m ≡ n = omega arith in z) in
      subst (λ k. holds (states scale initial es k) c ≡ holds (states scale initial es m) c) is (holds_same _ _ c (λ a p. still_atom a (n - m) m f) (λ g p. still_number g (n - m) m f))

pub at_most_last : (es : List Placed) (e : Placed) → In e es → e.moment ≤ last_moment es
at_most_last [] e i = absurd i
at_most_last (x ∷ es) e (inl w) = let q : e.moment ≡ x.moment = ap (λ (z : Placed). z.moment) w in omega arith
at_most_last (x ∷ es) e (inr i) = omega (arith, at_most_last es e i)

module _ (scale : ℕ) (initial : State) (goal : Cond) (plan : List Planned) (clear : (m : ℕ) → fault_at scale initial plan m ≡ None) where
  abbrev es : List Placed
  es = events plan

  abbrev s : ℕ → State
  s = states scale initial es

  record Clear (m : ℕ) : Type 0 where
    durations : (p : Planned) → In p plan → (p.moment == m) ≡ true → is_unlawful scale (s m) p.duration p.body ≡ false
    defined : (e : Placed) → In e es → (e.moment == m) ≡ true → is_defined scale (s m) e.timed ≡ true
    conditions : (e : Placed) → In e es → (e.moment == m) ≡ true → holds (s m) e.timed.event.condition ≡ true
    unmixed : (e : Placed) → In e es → (e.moment == m) ≡ true → mixes e.timed.event ≡ false
    separate : apart (at m es) ≡ true
    invariants : (p : Planned) → In p plan → is_broken (s (suc m)) m p p.body ≡ false

  parts : (m : ℕ) → Clear m
  parts m =
      let a = first_none fault.Duration _ _ (clear m) in
      let b = first_none fault.Undefined _ _ a.1 in
      let c = first_none fault.Condition _ _ b.1 in
      let d = first_none fault.Clash _ _ c.1 in
      let f = first_none (λ (p : ℕ × ℕ). fault.Interferes p.0 p.1) _ _ d.1 in
      let g = first_none fault.OverAll (position_from (λ (p : Planned). is_broken (s (suc m)) m p p.body) 0 plan) None f.1 in
      record {
        durations = λ p i q. at_it (p.moment == m) _ (none_passes _ 0 plan a.0 p i) q;
        defined = λ e i q. not-false _ (at_it (e.moment == m) _ (none_passes _ 0 es b.0 e i) q);
        conditions = λ e i q. not-false _ (at_it (e.moment == m) _ (none_passes _ 0 es c.0 e i) q);
        unmixed = λ e i q. at_it (e.moment == m) _ (none_passes _ 0 es d.0 e i) q;
        separate = apart_at_moment m 0 es f.0;
        invariants = λ p i. none_passes (λ (p : Planned). is_broken (s (suc m)) m p p.body) 0 plan g.0 p i;
      }

  run : IsRun scale initial es s
  run =
      record {
        first = refl;
        next = λ m. record {
          conditions = all_picked_from (λ x. x.moment == m) (λ x. x.timed.ticks) (λ t. holds (s m) t.event.condition ≡ true) es (parts m).conditions;
          definedness = all_picked_from (λ x. x.moment == m) (λ x. x.timed.ticks) (λ t. is_defined scale (s m) t ≡ true) es (parts m).defined;
          unmixed = all_picked_from (λ x. x.moment == m) (λ x. x.timed.ticks) (λ t. mixes t.event ≡ false) es (parts m).unmixed;
          separate = (parts m).separate;
          atoms = λ a. ap (λ k. (s k).atom a) (add-one m);
          numbers = λ f. ap (λ k. (s k).number f) (add-one m);
        };
      }

  constraint_of : (before : State) (ticks : ℕ) (ls : List Limit) → list_all (λ (l : Limit). compares_values l.how (Some (pos ticks)) (both ◌*ℤ◌ (Some (pos scale)) (value before None l.value))) ls ≡ true → AllByRecursion (λ (l : Limit). compares_values l.how (Some (pos ticks)) (both ◌*ℤ◌ (Some (pos scale)) (value before None l.value)) ≡ true) ls
  constraint_of before ticks [] h = tt
  constraint_of before ticks (l ∷ ls) h = let p = and_parts (compares_values l.how (Some (pos ticks)) (both ◌*ℤ◌ (Some (pos scale)) (value before None l.value))) _ h in (p.0, constraint_of before ticks ls p.1)

  body_holds : (k : ℕ) (p : Planned) (b : Body) → is_unlawful scale (s p.moment) p.duration b ≡ false → ((m : ℕ) → is_broken (s (suc m)) m p b ≡ false) → ((e : Placed) → In e (events_of k p b) → In e es) → BodyHolds scale s p.moment p.duration b
  body_holds k p (Instant x) u v sub = tt
  body_holds k p (Durative x y c) u v sub =
      let start : Placed = record { number = k; first = k; last = k + 1; moment = p.moment; timed = record { event = x; ticks = p.duration } } in
      let d = and_parts _ (list_all (λ (l : Limit). is_some (value (s p.moment) None l.value)) x.constraint.items) ((parts p.moment).defined start (sub start (inl refl)) (eq-eqb p.moment p.moment refl)) in
      let ok = not-false _ (at_it (list_all (λ (l : Limit). is_some (value (s p.moment) None l.value)) x.constraint.items) _ u d.1) in
      let q = and_parts (nat_le 1 p.duration) _ ok in
      record {
        lawful = record { tick = leb-true 1 p.duration q.0; constraint_holds = constraint_of (s p.moment) p.duration x.constraint.items q.1 };
        invariant_holds = λ m l h. subst (λ n. holds (s n) c ≡ true) (sym (add-one m)) (not-false _ (at_it (nat_lt m (p.moment + p.duration)) _ (at_it (nat_le p.moment m) _ (v m) (le-leb p.moment m l)) (lt-ltb m (p.moment + p.duration) h)));
      }

  steps : (k : ℕ) (ps : List Planned) → ((p : Planned) → In p ps → In p plan) → ((e : Placed) → In e (events_from k ps) → In e es) → AllByRecursion (λ (p : Planned). BodyHolds scale s p.moment p.duration p.body) ps
  steps k [] f g = tt
  steps k (p ∷ ps) f g =
      (body_holds k p p.body ((parts p.moment).durations p (f p (inl refl)) (eq-eqb p.moment p.moment refl)) (λ m. (parts m).invariants p (f p (inl refl))) (λ e i. g e (in_left e (events_of k p p.body) _ i)), steps (k + count_of p.body) ps (λ q i. f q (inr i)) (λ e i. g e (in_right e (events_of k p p.body) _ i)))

  pub without_fault : holds (s (suc (last_moment es))) goal ≡ true → IsValidRun scale initial goal plan s
  without_fault h =
      record {
        run = run;
        steps = steps 0 plan (λ p i. i) (λ e i. i);
        last = λ m f. ⊎_elim
            (λ l. sym (holds_still scale initial es goal m (suc (last_moment es)) (omega arith) (all_at _ es f)) ∙ h)
            (λ l. holds_still scale initial es goal (suc (last_moment es)) m l (λ e i. omega (arith, at_most_last es e i)) ∙ h)
            (cases_lt m (suc (last_moment es)));
      }
