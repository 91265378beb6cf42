-- What is found at one moment, from what is looked at there in turn.
use Rattle.std.proofs.Common.{◌≡◌, ℕ, ◌+◌, Bool, true, false, not, ◌&&◌, ◌==◌, cond, List, [], ◌∷◌, ◌++◌, map, filter, Option, Some, None, ⊎_elim, inl, inr, sym, ap, ◌∙◌, subst}
use Rattle.std.specs.List.{list_all, position_from}
use Rattle.std.proofs.lemmas.Bool.{and_left, and_right, and_cases, or_parts, not-false, cond-true}
use Rattle.tp_task.specs.declared.events.Body.{Body}
use Rattle.tp_task.specs.declared.events.Body.TheVariants.{Instant, Durative}
use Rattle.tp_task.specs.State.{State}
use Rattle.tp_task.specs.Happens.{EventOfStep, Happens}
use Rattle.tp_task.specs.Valid.{Planned, Placed, events_of, events_from, count_of, at}
use Rattle.tp_task.specs.Verdict as fault
use Rattle.tp_task.specs.Verdict.{Fault, fault_or, is_unlawful, is_broken}
use Rattle.tp_happen.specs.declared.faults.Why.{Why}
use Rattle.tp_happen.specs.Fault.{fault_of}
use Rattle.tp_happen.specs.Small.{all_small}
use Rattle.tp_happen.specs.Bounded.{event_small, effects_small, constraint_small}
use Rattle.tp_validate.specs.Places.{here, numbers}
use Rattle.tp_validate.specs.Tick.{after_of, of_events, fault_from, renumbered, invariant_small, PassesAt}
use Rattle.tp_validate.specs.Constraints.{start_small, constraint_small_at}
use Rattle.tp_validate.proofs.Numbers.{IsNumbered}
use Rattle.tp_validate.proofs.OneHappening.{fails, happens}

module _ (scale : ℕ) (s : State) (m : ℕ) (ps : List Planned) (es : List Placed) where
  abbrev rest : Option Fault
  rest = fault_or fault.OverAll (position_from (λ (p : Planned). is_broken (after_of scale s (at m es)) m p p.body) 0 ps) None

  abbrev first : Option ℕ
  first = position_from (λ (p : Planned). (p.moment == m) && is_unlawful scale s p.duration p.body) 0 ps

  pub failing : IsNumbered 0 es → None ≡ first → (i : ℕ) (why : Why) → fault_of scale s (at m es) ≡ Some (i, why) → fault_from scale s m ps es ≡ Some (renumbered (numbers (here m es)) i why)
  failing o n i why h = ap (λ r. fault_or fault.Duration r (of_events scale s m es rest)) (sym n) ∙ fails scale s m es o i why rest h

  pub is_after : (new : State) → Happens scale s (at m es) new → new ≡ after_of scale s (at m es)
  is_after new h = λ i. record { atom = λ a. h.atoms a i; number = λ f. h.numbers f i }

  pub going_on : IsNumbered 0 es → None ≡ first → (new : State) → Happens scale s (at m es) new → (r : Option ℕ) → r ≡ position_from (λ (p : Planned). is_broken new m p p.body) 0 ps → fault_from scale s m ps es ≡ fault_or fault.OverAll r None
  going_on o n new h r e =
      ap (λ q. fault_or fault.Duration q (of_events scale s m es rest)) (sym n)
      ∙ (happens scale s m es o rest new h
      ∙ ap (λ q. fault_or fault.OverAll q None) (ap (λ (z : State). position_from (λ (p : Planned). is_broken z m p p.body) 0 ps) (sym (is_after new h)) ∙ sym e))

-- a duration constraint that passes the limit is one of its start's expressions
module _ (scale : ℕ) (s : State) (m : ℕ) where
  abbrev passes : List Placed → Type 0
  passes es = list_all (event_small scale s) (at m es) ≡ false

  kept : (b : Bool) (e : Placed) (es : List Placed) → passes es → list_all (event_small scale s) (map (λ (x : Placed). x.timed) (cond b (e ∷ filter (λ x. x.moment == m) es) (filter (λ x. x.moment == m) es))) ≡ false
  kept true e es h = and_right (event_small scale s e.timed) (list_all (event_small scale s) (at m es)) h
  kept false e es h = h

  later : (k : ℕ) (p : Planned) (b : Body) (es : List Placed) → passes es → passes (events_of k p b ++ es)
  later k p (Instant x) es h = kept (p.moment == m) (record { number = k; first = k; last = k; moment = p.moment; timed = record { event = x; ticks = 0 } }) es h
  later k p (Durative x y c) es h =
      let end : Placed = record { number = k + 1; first = k; last = k + 1; moment = p.moment + p.duration; timed = record { event = y; ticks = p.duration } } in
      kept (p.moment == m) (record { number = k; first = k; last = k + 1; moment = p.moment; timed = record { event = x; ticks = p.duration } }) (end ∷ es) (kept (p.moment + p.duration == m) end es h)

  starting : (k : ℕ) (p : Planned) (b : Body) (es : List Placed) → (p.moment == m) ≡ true → start_small s b ≡ false → passes (events_of k p b ++ es)
  starting k p (Instant x) es e h = absurd (cc)
  starting k p (Durative x y c) es e h =
      let t : EventOfStep = record { event = x; ticks = p.duration } in
      let start : Placed = record { number = k; first = k; last = k + 1; moment = p.moment; timed = t } in
      let end : Placed = record { number = k + 1; first = k; last = k + 1; moment = p.moment + p.duration; timed = record { event = y; ticks = p.duration } } in
      ap (λ fs. list_all (event_small scale s) (map (λ (z : Placed). z.timed) fs)) (cond-true (p.moment == m) (start ∷ filter (λ z. z.moment == m) (end ∷ es)) (filter (λ z. z.moment == m) (end ∷ es)) e)
      ∙ and_left (event_small scale s t) _ (and_right (all_small s x.condition) _ (and_right (effects_small scale s t) (constraint_small s t) h))

  pub constraints_pass : (k : ℕ) (ps : List Planned) → list_all (constraint_small_at s m) ps ≡ false → passes (events_from k ps)
  constraints_pass k [] h = absurd (cc)
  constraints_pass k (p ∷ ps) h =
      ⊎_elim
      (λ e. let q = or_parts (not (p.moment == m)) (start_small s p.body) e in starting k p p.body (events_from (k + count_of p.body) ps) (not-false (p.moment == m) q.0) q.1)
      (λ e. later k p p.body (events_from (k + count_of p.body) ps) (constraints_pass (k + count_of p.body) ps e))
      (and_cases (constraint_small_at s m p) (list_all (constraint_small_at s m) ps) h)

-- where a number passes the limit
module _ (scale : ℕ) (s : State) (m : ℕ) (ps : List Planned) (es : List Placed) where
  pub constraint_range : es ≡ events_from 0 ps → list_all (constraint_small_at s m) ps ≡ false → PassesAt scale s m ps es
  constraint_range e h = inl (inl (subst (λ (xs : List Placed). list_all (event_small scale s) (at m xs) ≡ false) (sym e) (constraints_pass scale s m 0 ps h)))

  pub invariant_range : (new : State) → Happens scale s (at m es) new → list_all (λ (p : Planned). invariant_small new m p p.body) ps ≡ false → PassesAt scale s m ps es
  invariant_range new h n =
      let e = is_after scale s m ps es new h in
      inr (subst (λ (z : State). Happens scale s (at m es) z) e h, subst (λ (z : State). list_all (λ (p : Planned). invariant_small z m p p.body) ps ≡ false) e n)
