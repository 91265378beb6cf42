-- A valid plan has no fault.
use Rattle.std.proofs.Common.{◌≡◌, ℕ, suc, zero, ◌+◌, Bool, true, false, ◌&&◌, ◌==◌, nat_le, nat_lt, List, [], ◌∷◌, ⊎_elim, inl, inr, refl, sym, ap, ap₂, ◌∙◌, subst, arith, add-one, Some, None, pos, ◌*ℤ◌, eqb-true}
use Rattle.std.specs.List.{list_all, position_from, AllByRecursion}
use Rattle.std.proofs.lemmas.Bool.{and_parts, and_from, and_left, and_right, cases_Bool, not_from_true, cond-false, leb-true, ltb-true, le-leb}
use Rattle.tp_task.specs.declared.events.Body.{Body}
use Rattle.tp_task.specs.declared.events.Body.TheVariants.{Instant, Durative}
use Rattle.tp_task.specs.declared.events.Cond.{Cond}
use Rattle.tp_task.specs.declared.events.Limit.{Limit}
use Rattle.tp_task.specs.State.{State, both, value, holds, compares_values}
use Rattle.tp_task.specs.Event.{mixes}
use Rattle.tp_task.specs.Happens.{EventOfStep, is_defined, apart, atom_after, number_after}
use Rattle.tp_task.specs.Valid.{Planned, Placed, events, at, BodyHolds, IsRun, IsValidRun}
use Rattle.tp_task.specs.Bounds.{In}
use Rattle.tp_task.specs.Verdict as fault
use Rattle.tp_task.specs.Verdict.{states, is_unlawful, is_broken, pair_or, first_pair, fault_or, fault_at, last_moment}
use Rattle.tp_task.proofs.Lists.{all_at, all_from}
use Rattle.tp_task.proofs.Picked.{picked_yes, picked_no, all_picked_at, each_apart}
use Rattle.tp_task.proofs.Sound.{at_most_last}

none_found : {X : Type 0} (p : X → Bool) (i : ℕ) (xs : List X) → ((x : X) → In x xs → p x ≡ false) → position_from p i xs ≡ None
none_found p i [] h = refl
none_found p i (y ∷ ys) h = cond-false (p y) (Some i) (position_from p (i + 1) ys) (h y (inl refl)) ∙ none_found p (i + 1) ys (λ x k. h x (inr k))

-- a test at a moment that nothing there passes
at_it : (a q : Bool) → (a ≡ true → q ≡ false) → (a && q) ≡ false
at_it a q h = ⊎_elim (λ e. and_right a q (h e)) (λ e. and_left a q e) (cases_Bool a)

no_pair : (m i : ℕ) (es : List Placed) → apart (at m es) ≡ true → first_pair m i es ≡ None
no_pair m i [] h = refl
no_pair m i (e ∷ es) h = ap₂ (pair_or i) (none_found _ (i + 1) es (λ u j. at_it ((e.moment == m) && (u.moment == m)) _ (λ z. let p = and_parts (e.moment == m) (u.moment == m) z in each_apart (λ x. x.moment == m) (λ x. x.timed.ticks) e es (and_parts _ (apart (at m es)) (subst (λ ts. apart ts ≡ true) (picked_yes (λ x. x.moment == m) (λ x. x.timed.ticks) e es p.0) h)).0 u j p.1))) (no_pair m (i + 1) es rest)
  where
    rest : apart (at m es) ≡ true
    rest = ⊎_elim (λ q. (and_parts _ (apart (at m es)) (subst (λ ts. apart ts ≡ true) (picked_yes (λ x. x.moment == m) (λ x. x.timed.ticks) e es q) h)).1) (λ q. subst (λ ts. apart ts ≡ true) (picked_no (λ x. x.moment == m) (λ x. x.timed.ticks) e es q) h) (cases_Bool (e.moment == m))

same_state : (s s' : State) → ((a : ℕ) → s.atom a ≡ s'.atom a) → ((f : ℕ) → s.number f ≡ s'.number f) → s ≡ s'
same_state s s' h k = λ i. record { atom = λ a. h a i; number = λ f. k f i }

-- the one run
trace_is : (scale : ℕ) (initial : State) (es : List Placed) (trace : ℕ → State) → IsRun scale initial es trace → (m : ℕ) → trace m ≡ states scale initial es m
trace_is scale initial es trace r zero = r.first
trace_is scale initial es trace r (suc m) =
    ap trace (sym (add-one m))
    ∙ same_state _ _
    (λ a. (r.next m).atoms a ∙ ap (λ s. atom_after s (at m es) a) (trace_is scale initial es trace r m))
    (λ f. (r.next m).numbers f ∙ ap (λ s. number_after scale s (at m es) f) (trace_is scale initial es trace r m))

module _ (scale : ℕ) (initial : State) (goal : Cond) (plan : List Planned) (v : IsValidRun scale initial goal plan (states scale initial (events plan))) where
  abbrev es : List Placed
  es = events plan

  abbrev s : ℕ → State
  s = states scale initial es

  picked_holds : (P : EventOfStep → Type 0) (m : ℕ) → AllByRecursion P (at m es) → (e : Placed) → In e es → (e.moment == m) ≡ true → P e.timed
  picked_holds P m h e i q = all_picked_at (λ x. x.moment == m) (λ x. x.timed.ticks) P es h e i q

  constraint_from : (before : State) (ticks : ℕ) (ls : List Limit) → AllByRecursion (λ (l : Limit). compares_values l.how (Some (pos ticks)) (both ◌*ℤ◌ (Some (pos scale)) (value before None l.value)) ≡ true) ls → list_all (λ (l : Limit). compares_values l.how (Some (pos ticks)) (both ◌*ℤ◌ (Some (pos scale)) (value before None l.value))) ls ≡ true
  constraint_from before ticks [] h = refl
  constraint_from before ticks (l ∷ ls) h = and_from _ _ h.0 (constraint_from before ticks ls h.1)

  lawful : (p : Planned) (b : Body) → BodyHolds scale s p.moment p.duration b → is_unlawful scale (s p.moment) p.duration b ≡ false
  lawful p (Instant x) h = refl
  lawful p (Durative x y c) h = and_right _ _ (not_from_true _ (and_from (nat_le 1 p.duration) _ (le-leb 1 p.duration h.lawful.tick) (constraint_from (s p.moment) p.duration x.constraint.items h.lawful.constraint_holds)))

  unbroken : (m : ℕ) (p : Planned) (b : Body) → BodyHolds scale s p.moment p.duration b → is_broken (s (suc m)) m p b ≡ false
  unbroken m p (Instant x) h = refl
  unbroken m p (Durative x y c) h = at_it (nat_le p.moment m) _ (λ l. at_it (nat_lt m (p.moment + p.duration)) _ (λ k. not_from_true _ (subst (λ n. holds (s n) c ≡ true) (add-one m) (h.invariant_holds m (leb-true p.moment m l) (ltb-true m (p.moment + p.duration) k)))))

  pub no_fault : (m : ℕ) → fault_at scale initial plan m ≡ None
  no_fault m =
      ap₂ (fault_or fault.Duration) (none_found _ 0 plan (λ p i. at_it (p.moment == m) _ (λ q. subst (λ k. is_unlawful scale (s k) p.duration p.body ≡ false) (eqb-true p.moment m q) (lawful p p.body (all_at _ plan v.steps p i)))))
      (ap₂ (fault_or fault.Undefined) (none_found _ 0 es (λ e i. at_it (e.moment == m) _ (λ q. not_from_true _ (picked_holds (λ t. is_defined scale (s m) t ≡ true) m (v.run.next m).definedness e i q))))
      (ap₂ (fault_or fault.Condition) (none_found _ 0 es (λ e i. at_it (e.moment == m) _ (λ q. not_from_true _ (picked_holds (λ t. holds (s m) t.event.condition ≡ true) m (v.run.next m).conditions e i q))))
      (ap₂ (fault_or fault.Clash) (none_found _ 0 es (λ e i. at_it (e.moment == m) _ (λ q. picked_holds (λ t. mixes t.event ≡ false) m (v.run.next m).unmixed e i q)))
      (ap₂ (fault_or (λ (p : ℕ × ℕ). fault.Interferes p.0 p.1)) (no_pair m 0 es (v.run.next m).separate)
      (ap (λ r. fault_or fault.OverAll r None) (none_found _ 0 plan (λ p i. unbroken m p p.body (all_at _ plan v.steps p i))))))))

  pub goal_holds : holds (s (suc (last_moment es))) goal ≡ true
  goal_holds = v.last (suc (last_moment es)) (all_from _ es (λ e i. omega (arith, at_most_last es e i)))

pub one_run : (scale : ℕ) (initial : State) (goal : Cond) (plan : List Planned) (trace : ℕ → State) → IsValidRun scale initial goal plan trace → IsValidRun scale initial goal plan (states scale initial (events plan))
one_run scale initial goal plan trace v = subst (IsValidRun scale initial goal plan) (λ i m. trace_is scale initial (events plan) trace v.run m i) v
