-- Each assignment that meets the bounds of a valid plan makes a valid plan.
use Rattle.std.proofs.Common.{◌≡◌, ◌≢◌, ℕ, suc, ◌+◌, ◌-◌, ◌≤◌, ◌<◌, max, Bool, true, false, ◌&&◌, ◌||◌, nat_lt, nat_le, ◌==◌, List, [], ◌∷◌, ◌++◌, map, ◌⊎◌, inl, inr, ⊎_elim, refl, sym, ◌∙◌, ap, subst, arith, Some, None, pos, ◌*ℤ◌}
use Rattle.std.specs.List.{AllByRecursion, flat_map}
use Rattle.std.proofs.lemmas.Bool.{or_left, or_right, and_parts, and_from, ltb-true, leb-true, lt-ltb, le-leb, cases_Bool, cases_lt, cases_eq, cases_order, MatchBool-at_true, MatchBool-at_false}
use Rattle.tp_task.specs.declared.events.GroundEvent.{GroundEvent}
use Rattle.tp_task.specs.declared.events.Limit.{Limit}
use Rattle.tp_task.specs.declared.events.Cond.{Cond}
use Rattle.tp_task.specs.declared.events.Body.{Body}
use Rattle.tp_task.specs.declared.events.Body.TheVariants.{Instant, Durative}
use Rattle.tp_task.specs.State.{State, both, value, fluents_of, atoms_in, holds, compares_values}
use Rattle.tp_task.specs.Event.{meets, interferes}
use Rattle.tp_task.specs.Valid.{Planned, Placed, events, events_of, events_from, count_of, IsLawful, StepHolds, BodyHolds, IsRun, IsValidRun}
use Rattle.tp_task.specs.Bounds.{In, uses_duration, writes_into, Touches, StepKeeps, BodyKeeps, StepsKeep, MeetsBounds, retimed_body, retimed_from, retimed}
use Rattle.tp_task.proofs.Lists.{all_from}
use Rattle.tp_task.proofs.Same.{SameNumbers, has_left, has_right, meets_at, value_same, holds_same}
use Rattle.tp_task.proofs.Register.{Agrees}
use Rattle.tp_task.proofs.Picked.{both_ways, apart_at}
use Rattle.tp_task.proofs.Effects.{swapped}
use Rattle.tp_task.proofs.Run.{moved, Moves, moved_trace, moved_run, same_atom, same_number, constraint_as_before}
use Rattle.tp_task.proofs.Numbered.{in_left, in_right, rising_from, one_number, when_of, ticks_of, ticks_kept, retimed_events}
use Rattle.std.proofs.lemmas.Bool.Decides.{nat_tests}

-- a duration constraint that reads the same holds for the same durations
lawful_same : (scale : ℕ) (s s' : State) (ls : List Limit) (n : ℕ) → SameNumbers s s' (flat_map (λ l. fluents_of l.value) ls) → IsLawful scale s ls n → IsLawful scale s' ls n
lawful_same scale s s' ls n h k = record { tick = k.tick; constraint_holds = go ls h k.constraint_holds }
  where
    go : (ls : List Limit) → SameNumbers s s' (flat_map (λ l. fluents_of l.value) ls) → AllByRecursion (λ (l : Limit). compares_values l.how (Some (pos n)) (both ◌*ℤ◌ (Some (pos scale)) (value s None l.value)) ≡ true) ls → AllByRecursion (λ (l : Limit). compares_values l.how (Some (pos n)) (both ◌*ℤ◌ (Some (pos scale)) (value s' None l.value)) ≡ true) ls
    go [] h k = tt
    go (l ∷ ls) h k = (subst (λ v. compares_values l.how (Some (pos n)) (both ◌*ℤ◌ (Some (pos scale)) v) ≡ true) (value_same s s' None None l.value (λ f i. h f (has_left (fluents_of l.value) _ f i)) (inl refl)) k.0, go ls (λ f i. h f (has_right (fluents_of l.value) _ f i)) k.1)

-- the latest moment of the events that pass, from a moment on
record Latest (pick : Placed → Bool) (low : ℕ) (es : List Placed) : Type 0 where
  moment : ℕ
  least : low ≤ moment
  reached : (moment ≡ low) ⊎ ((e : Placed) × In e es × (pick e ≡ true) × (moment ≡ e.moment))
  above : (e : Placed) → In e es → pick e ≡ true → e.moment ≤ moment

latest : (pick : Placed → Bool) (low : ℕ) (es : List Placed) → Latest pick low es
latest pick low [] = record { moment = low; least = omega arith; reached = inl refl; above = λ e i p. absurd i }
latest pick low (x ∷ es) = go (latest pick low es) (cases_Bool (pick x))
  where
    later : (h : Latest pick low es) → (h.moment ≡ low) ⊎ ((e : Placed) × In e (x ∷ es) × (pick e ≡ true) × (h.moment ≡ e.moment))
    later h = ⊎_elim inl (λ w. inr (w.0, inr w.1, w.2, w.3)) h.reached

    go : Latest pick low es → (pick x ≡ true) ⊎ (pick x ≡ false) → Latest pick low (x ∷ es)
    go h (inr n) = record { moment = h.moment; least = h.least; reached = later h; above = λ e i p. ⊎_elim (λ w. absurd (both_ways (pick x) (subst (λ z. pick z ≡ true) w p) n)) (λ j. h.above e j p) i }
    go h (inl y) = higher (cases_lt h.moment x.moment)
      where
        higher : (h.moment < x.moment) ⊎ (x.moment ≤ h.moment) → Latest pick low (x ∷ es)
        higher (inl l) = record { moment = x.moment; least = omega (arith, h.least); reached = inr (x, inl refl, y, refl); above = λ e i p. ⊎_elim (λ w. let q : e.moment ≡ x.moment = ap (λ (z : Placed). z.moment) w in omega arith) (λ j. omega (arith, h.above e j p)) i }
        higher (inr l) = record { moment = h.moment; least = h.least; reached = later h; above = λ e i p. ⊎_elim (λ w. let q : e.moment ≡ x.moment = ap (λ (z : Placed). z.moment) w in omega arith) (λ j. h.above e j p) i }

-- a moment behind all events
behind_all : (es : List Placed) → (u : ℕ) × ((e : Placed) → In e es → e.moment < u)
behind_all [] = (0, λ e i. absurd i)
behind_all (x ∷ es) = let (u, f) = behind_all es in (suc (max u x.moment), λ e i. ⊎_elim (λ w. let q : e.moment ≡ x.moment = ap (λ (z : Placed). z.moment) w in omega arith) (λ j. omega (arith, f e j)) i)

module _ (scale : ℕ) (initial : State) (goal : Cond) (plan : List Planned) (trace : ℕ → State) (v : IsValidRun scale initial goal plan trace) (t : ℕ → ℕ) (b : MeetsBounds scale trace plan t) where
  abbrev es : List Placed
  es = events plan

  keeps : (x y : Placed) → In x es → In y es → interferes x.timed.event y.timed.event ≡ true → (x ≡ y) ⊎ Agrees (λ (e : Placed). e.moment) (when_of t) x y
  keeps x y i j h = ⊎_elim (λ e. inl (one_number es (rising_from 0 plan) x y i j e)) (λ n. inr (ordered n (cases_order x.moment y.moment))) (cases_eq x.number y.number)
    where
      ordered : x.number ≢ y.number → (x.moment ≡ y.moment) ⊎ ((x.moment < y.moment) ⊎ (y.moment < x.moment)) → Agrees (λ (e : Placed). e.moment) (when_of t) x y
      ordered n (inl e) = absurd (both_ways _ h (apart_at (λ z. z.moment == x.moment) (λ z. z.timed.ticks) es (v.run.next x.moment).separate x y i j (grind (arith, nat_tests)) (grind (arith, nat_tests)) n))
      ordered n (inr (inl l)) = inl (l, b.order x y i j h l)
      ordered n (inr (inr l)) = inr (l, b.order y x j i (swapped y.timed.event x.timed.event h) l)

  moves : Moves scale initial es trace (when_of t) (ticks_of t)
  moves = record { run = v.run; rising = rising_from 0 plan; keeps = keeps; same_ticks = ticks_kept scale trace es t 0 plan b.steps }

  abbrev new : ℕ → State
  new = moved_trace scale initial es (when_of t) (ticks_of t)

  -- one step with an invariant
  module _ (k : ℕ) (p : Planned) (start end : GroundEvent) (invariant : Cond) (held : StepHolds scale trace p.moment p.duration start invariant) (kept : StepKeeps scale trace es t k p start end invariant) (sub : (e : Placed) → In e (events_of k p (Durative start end invariant)) → In e es) where
    abbrev first : Placed
    first = record { number = k; first = k; last = k + 1; moment = p.moment; timed = record { event = start; ticks = p.duration } }

    abbrev last : Placed
    last = record { number = k + 1; first = k; last = k + 1; moment = p.moment + p.duration; timed = record { event = end; ticks = p.duration } }

    lawful_new : IsLawful scale (new (t k)) start.constraint.items (t (k + 1) - t k)
    lawful_new = lawful_same scale (trace p.moment) (new (t k)) start.constraint.items (t (k + 1) - t k) (constraint_as_before scale initial es trace (when_of t) (ticks_of t) moves first (sub first (inl refl))) (⊎_elim fixed free (cases_Bool (uses_duration start || uses_duration end)))
      where
        length_is : kept.duration.ticks ≡ t (k + 1) - t k
        length_is = omega (arith, kept.duration.apart)

        fixed : (uses_duration start || uses_duration end) ≡ true → IsLawful scale (trace p.moment) start.constraint.items (t (k + 1) - t k)
        fixed u = subst (IsLawful scale (trace p.moment) start.constraint.items) (sym (MatchBool-at_true _ _ u kept.duration.lawful) ∙ length_is) held.lawful

        free : (uses_duration start || uses_duration end) ≡ false → IsLawful scale (trace p.moment) start.constraint.items (t (k + 1) - t k)
        free u = subst (IsLawful scale (trace p.moment) start.constraint.items) length_is (MatchBool-at_false _ _ u kept.duration.lawful)

    -- an event between start and end that writes into the invariant and has come by m
    abbrev inner : ℕ → Placed → Bool
    inner m e = writes_into e.timed.event invariant && (nat_lt p.moment e.moment && (nat_lt e.moment (p.moment + p.duration) && nat_le (t e.number) m))

    inner_parts : (m : ℕ) (e : Placed) → inner m e ≡ true → (writes_into e.timed.event invariant ≡ true) × (p.moment < e.moment) × (e.moment < p.moment + p.duration) × (t e.number ≤ m)
    inner_parts m e h =
        let (w, q) = and_parts (writes_into e.timed.event invariant) _ h in
        let (x, r) = and_parts (nat_lt p.moment e.moment) _ q in
        let (y, z) = and_parts (nat_lt e.moment (p.moment + p.duration)) _ r in
        (w, ltb-true _ _ x, ltb-true _ _ y, leb-true _ _ z)

    inner_from : (m : ℕ) (e : Placed) → writes_into e.timed.event invariant ≡ true → p.moment < e.moment → e.moment < p.moment + p.duration → t e.number ≤ m → inner m e ≡ true
    inner_from m e w x y z = and_from (writes_into e.timed.event invariant) _ w (and_from (nat_lt p.moment e.moment) _ (lt-ltb _ _ x) (and_from (nat_lt e.moment (p.moment + p.duration)) _ (lt-ltb _ _ y) (le-leb _ _ z)))

    is_first : (x : Placed) → In x es → x.number ≡ k → x ≡ first
    is_first x i e = one_number es (rising_from 0 plan) x first i (sub first (inl refl)) e

    is_last : (x : Placed) → In x es → x.number ≡ k + 1 → x ≡ last
    is_last x i e = one_number es (rising_from 0 plan) x last i (sub last (inr (inl refl))) e

    touches : (x : Placed) → In x es → writes_into x.timed.event invariant ≡ true → p.moment < x.moment → x.moment < p.moment + p.duration → Touches x k invariant
    touches x i w l h =
        record {
          not_start = λ e. let q : x.moment ≡ p.moment = ap (λ (z : Placed). z.moment) (is_first x i e) in omega arith;
          not_end = λ e. let q : x.moment ≡ p.moment + p.duration = ap (λ (z : Placed). z.moment) (is_last x i e) in omega arith;
          writes = w;
        }

    module _ (m : ℕ) (l : t k ≤ m) (h : m < t (k + 1)) where
      at_latest : Latest (inner m) p.moment es
      at_latest = latest (inner m) p.moment es

      before_end : at_latest.moment < p.moment + p.duration
      before_end = ⊎_elim (λ e. omega (arith, e, held.lawful.tick)) (λ w. let q = inner_parts m w.0 w.2 in omega (arith, w.3, q.2)) at_latest.reached

      cut_other : (x : Placed) → In x es → writes_into x.timed.event invariant ≡ true → x.number ≢ k → x.number ≢ k + 1 → (x.moment < at_latest.moment + 1 → t x.number < m + 1) × (t x.number < m + 1 → x.moment < at_latest.moment + 1)
      cut_other x i w n n' = ⊎_elim low (λ a. ⊎_elim (between a) high (cases_lt x.moment (p.moment + p.duration))) (cases_le x.moment p.moment)
        where
          tx : Touches x k invariant
          tx = record { not_start = n; not_end = n'; writes = w }

          cases_le : (a c : ℕ) → (a ≤ c) ⊎ (c < a)
          cases_le a c = grind arith

          low : x.moment ≤ p.moment → (x.moment < at_latest.moment + 1 → t x.number < m + 1) × (t x.number < m + 1 → x.moment < at_latest.moment + 1)
          low a = ((λ _. omega (arith, kept.invariant_kept.before x i tx a)), (λ _. omega (arith, at_latest.least)))

          high : p.moment + p.duration ≤ x.moment → (x.moment < at_latest.moment + 1 → t x.number < m + 1) × (t x.number < m + 1 → x.moment < at_latest.moment + 1)
          high a = ((λ c. absurd (omega (arith, before_end))), (λ c. absurd (omega (arith, kept.invariant_kept.behind x i tx a))))

          come : p.moment < x.moment → x.moment ≤ at_latest.moment → (at_latest.moment ≡ p.moment) ⊎ ((e : Placed) × In e es × (inner m e ≡ true) × (at_latest.moment ≡ e.moment)) → t x.number < m + 1
          come a c (inl e) = absurd (omega (arith, e))
          come a c (inr (y, j, q, e)) =
              let r = inner_parts m y q in
              omega (arith, r.3, kept.invariant_kept.in_order x y i j tx (touches y j r.0 r.1 r.2) a (omega (arith, e)) r.2)

          between : p.moment < x.moment → x.moment < p.moment + p.duration → (x.moment < at_latest.moment + 1 → t x.number < m + 1) × (t x.number < m + 1 → x.moment < at_latest.moment + 1)
          between a c = ((λ d. come a (omega arith) at_latest.reached), (λ d. omega (arith, at_latest.above x i (inner_from m x w a c (omega arith)))))

      cut : (x : Placed) → In x es → writes_into x.timed.event invariant ≡ true → (x.moment < at_latest.moment + 1 → t x.number < m + 1) × (t x.number < m + 1 → x.moment < at_latest.moment + 1)
      cut x i w = ⊎_elim own_first (λ n. ⊎_elim own_last (λ n'. cut_other x i w n n') (cases_eq x.number (k + 1))) (cases_eq x.number k)
        where
          own_first : x.number ≡ k → (x.moment < at_latest.moment + 1 → t x.number < m + 1) × (t x.number < m + 1 → x.moment < at_latest.moment + 1)
          own_first e =
              let q : x.moment ≡ p.moment = ap (λ (z : Placed). z.moment) (is_first x i e) in
              let r : t x.number ≡ t k = ap t e in
              ((λ _. omega arith), (λ _. omega (arith, at_latest.least)))

          own_last : x.number ≡ k + 1 → (x.moment < at_latest.moment + 1 → t x.number < m + 1) × (t x.number < m + 1 → x.moment < at_latest.moment + 1)
          own_last e =
              let q : x.moment ≡ p.moment + p.duration = ap (λ (z : Placed). z.moment) (is_last x i e) in
              let r : t x.number ≡ t (k + 1) = ap t e in
              ((λ c. absurd (omega (arith, before_end))), (λ c. absurd (omega arith)))

      invariant_after : holds (new (m + 1)) invariant ≡ true
      invariant_after =
          sym (holds_same (trace (at_latest.moment + 1)) (new (m + 1)) invariant
          (λ a i. same_atom scale initial es trace (when_of t) (ticks_of t) moves a (at_latest.moment + 1) (m + 1) (λ x j w. cut x j (or_left (meets (x.timed.event.adds.items ++ x.timed.event.deletes.items) (atoms_in invariant)) _ (meets_at _ _ a w i))))
          (λ f i. same_number scale initial es trace (when_of t) (ticks_of t) moves f (at_latest.moment + 1) (m + 1) (λ x j w. cut x j (or_right (meets (x.timed.event.adds.items ++ x.timed.event.deletes.items) (atoms_in invariant)) _ (meets_at _ _ f w i)))))
          ∙ held.invariant_holds at_latest.moment at_latest.least before_end

    invariant_new : (m : ℕ) → t k ≤ m → m < t k + (t (k + 1) - t k) → holds (new (m + 1)) invariant ≡ true
    invariant_new m l h = invariant_after m l (omega (arith, kept.duration.apart))

  body_new : (k : ℕ) (p : Planned) (body : Body) → BodyHolds scale trace p.moment p.duration body → BodyKeeps scale trace es t k p body → ((e : Placed) → In e (events_of k p body) → In e es) → BodyHolds scale new (retimed_body t k body).moment (retimed_body t k body).duration (retimed_body t k body).body
  body_new k p (Instant x) h g s = tt
  body_new k p (Durative x y c) h g s = record { lawful = lawful_new k p x y c h g s; invariant_holds = invariant_new k p x y c h g s }

  steps_new : (k : ℕ) (ps : List Planned) → AllByRecursion (λ (p : Planned). BodyHolds scale trace p.moment p.duration p.body) ps → StepsKeep scale trace es t k ps → ((e : Placed) → In e (events_from k ps) → In e es) → AllByRecursion (λ (p : Planned). BodyHolds scale new p.moment p.duration p.body) (retimed_from t k ps)
  steps_new k [] h g s = tt
  steps_new k (p ∷ ps) h g s = (body_new k p p.body h.0 g.0 (λ e i. s e (in_left e (events_of k p p.body) _ i)), steps_new (k + count_of p.body) ps h.1 g.1 (λ e i. s e (in_right e (events_of k p p.body) _ i)))

  same_events : events (retimed t plan) ≡ map (moved (when_of t) (ticks_of t)) es
  same_events = retimed_events scale trace es t 0 plan b.steps

  goal_new : (m : ℕ) → AllByRecursion (λ (e : Placed). e.moment < m) (events (retimed t plan)) → holds (new m) goal ≡ true
  goal_new m h =
      let (u, f) = behind_all es in
      sym (holds_same (trace u) (new m) goal
      (λ a i. same_atom scale initial es trace (when_of t) (ticks_of t) moves a u m (λ x j w. ((λ _. early x j), (λ _. f x j))))
      (λ g i. same_number scale initial es trace (when_of t) (ticks_of t) moves g u m (λ x j w. ((λ _. early x j), (λ _. f x j)))))
      ∙ v.last u (all_from _ es f)
    where
      come : (xs : List Placed) → AllByRecursion (λ (e : Placed). e.moment < m) (map (moved (when_of t) (ticks_of t)) xs) → (x : Placed) → In x xs → t x.number < m
      come [] h x i = absurd i
      come (y ∷ xs) h x (inl w) = subst (λ (z : Placed). t z.number < m) (sym w) h.0
      come (y ∷ xs) h x (inr i) = come xs h.1 x i

      early : (x : Placed) → In x es → t x.number < m
      early = come es (subst (AllByRecursion (λ (e : Placed). e.moment < m)) same_events h)

  pub retimed_run : IsValidRun scale initial goal (retimed t plan) new
  retimed_run =
      record {
        run = subst (λ xs. IsRun scale initial xs new) (sym same_events) (moved_run scale initial es trace (when_of t) (ticks_of t) moves);
        steps = steps_new 0 plan v.steps b.steps (λ e i. i);
        last = goal_new;
      }
