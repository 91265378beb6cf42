-- A plan is valid exactly if what it says by words is.
use Rattle.std.proofs.Common.{◌≡◌, ℕ, zero, suc, ◌+◌, ◌<◌, Bool, true, false, cond, List, [], ◌∷◌, ◌++◌, map, filter, Some, None, pos, ◌*ℤ◌, ◌==◌, ◌↔◌, refl, sym, ap, ap₂, ◌∙◌, subst, add-one}
use Rattle.std.specs.List.{AllByRecursion}
use Rattle.std.proofs.lemmas.List.{map-append}
use Rattle.tp_task.specs.declared.events.Limit.{Limit}
use Rattle.tp_task.specs.declared.events.Cond.{Cond}
use Rattle.tp_task.specs.declared.events.Body.{Body}
use Rattle.tp_task.specs.declared.events.Body.TheVariants.{Instant, Durative}
use Rattle.tp_task.specs.State.{State, both, value, holds, compares_values}
use Rattle.tp_task.specs.Event.{mixes}
use Rattle.tp_task.specs.Happens.{EventOfStep, Happens, atom_after, number_after, is_defined}
use Rattle.tp_task.specs.Valid.{Planned, Placed, events_of, events_from, events, count_of, at, BodyHolds, IsRun, IsValidRun, IsValid}
use Rattle.tp_task.specs.Tables.{Tables}
use Rattle.tp_ground.specs.ReadBack.{named_condition, named_limit, named_body}
use Rattle.tp_ground_laws.proofs.OnLists.{all_to, all_back}
use Rattle.tp_ground_laws.proofs.ByWords.{WordState, value_in, holds_in, mix, Timed, after, defined_in, Part, Acted, parts_of, parts, parts_at, run, CanHappen, Allows, BodyLasts, IsValidOver, IsValidByWords}
use Rattle.tp_ground_laws.proofs.OnNamed.{seen, value_named, holds_named}
use Rattle.tp_ground_laws.proofs.OnEffects.{AreDistinct, IsWorded, AllWorded, named_timed, mixes_named, after_named, defined_named, apart_named}

-- ---- steps and events by words

abbrev pub named_planned : Tables → Planned → Acted
named_planned t p = record { moment = p.moment; duration = p.duration; body = named_body t p.body }

abbrev pub named_placed : Tables → Placed → Part
named_placed t e = record { moment = e.moment; timed = named_timed t e.timed }

module _ (t : Tables) where
  parts_of_named : (k : ℕ) (p : Planned) (b : Body) → map (named_placed t) (events_of k p b) ≡ parts_of (named_planned t p) (named_body t b)
  parts_of_named k p (Instant e) = refl
  parts_of_named k p (Durative start end invariant) = refl

  pub parts_named : (k : ℕ) (ps : List Planned) → map (named_placed t) (events_from k ps) ≡ parts (map (named_planned t) ps)
  parts_named k [] = refl
  parts_named k (p ∷ ps) =
      map-append (named_placed t) (events_of k p p.body) (events_from (k + count_of p.body) ps)
      ∙ ap₂ (λ (v w : List Part). v ++ w) (parts_of_named k p p.body) (parts_named (k + count_of p.body) ps)

  pub at_named : (m : ℕ) (es : List Placed) → map (named_timed t) (at m es) ≡ parts_at m (map (named_placed t) es)
  at_named m [] = refl
  at_named m (e ∷ es) = by (e.moment == m) (at_named m es)
    where
      by : (b : Bool) → map (named_timed t) (at m es) ≡ parts_at m (map (named_placed t) es) → map (named_timed t) (map (λ x. x.timed) (cond b (e ∷ filter (λ x. x.moment == m) es) (filter (λ x. x.moment == m) es))) ≡ map (λ x. x.timed) (cond b (named_placed t e ∷ filter (λ x. x.moment == m) (map (named_placed t) es)) (filter (λ x. x.moment == m) (map (named_placed t) es)))
      by true h = ap (λ (ts : List Timed). named_timed t e.timed ∷ ts) h
      by false h = h

-- what holds of each event holds of those at a moment
pub all_at_moment : (P : Timed → Type 0) (m : ℕ) (es : List Part) → AllByRecursion (λ e. P e.timed) es → AllByRecursion P (parts_at m es)
all_at_moment P m [] h = tt
all_at_moment P m (e ∷ es) h = by (e.moment == m) h.0 (all_at_moment P m es h.1)
  where
    by : (b : Bool) → P e.timed → AllByRecursion P (parts_at m es) → AllByRecursion P (map (λ x. x.timed) (cond b (e ∷ filter (λ x. x.moment == m) es) (filter (λ x. x.moment == m) es)))
    by true p q = (p, q)
    by false p q = q

abbrev pub AreWorded : List Part → Type 0
AreWorded es = AllByRecursion (λ e. IsWorded e.timed.happening) es

module _ (t : Tables) (d : AreDistinct t) where
  unmixed_to : (ts : List EventOfStep) → AllWorded (map (named_timed t) ts) → AllByRecursion (λ e. mixes e.event ≡ false) ts → AllByRecursion (λ e. mix e.happening.writes ≡ false) (map (named_timed t) ts)
  unmixed_to [] w h = tt
  unmixed_to (e ∷ ts) w h = (sym (mixes_named t d e.event.writes.items w.0.writes) ∙ h.0, unmixed_to ts w.1 h.1)

  unmixed_back : (ts : List EventOfStep) → AllWorded (map (named_timed t) ts) → AllByRecursion (λ e. mix e.happening.writes ≡ false) (map (named_timed t) ts) → AllByRecursion (λ e. mixes e.event ≡ false) ts
  unmixed_back [] w h = tt
  unmixed_back (e ∷ ts) w h = (mixes_named t d e.event.writes.items w.0.writes ∙ h.0, unmixed_back ts w.1 h.1)

same_state : (s s' : State) → ((a : ℕ) → s.atom a ≡ s'.atom a) → ((f : ℕ) → s.number f ≡ s'.number f) → s ≡ s'
same_state s s' h k = λ i. record { atom = λ a. h a i; number = λ f. k f i }

module _ (t : Tables) (d : AreDistinct t) (scale : ℕ) (s : WordState) (es : List Placed) (worded : AreWorded (map (named_placed t) es)) where
  abbrev r : ℕ → WordState
  r = run scale s (map (named_placed t) es)

  pub now_worded : (m : ℕ) → AllWorded (map (named_timed t) (at m es))
  now_worded m = subst AllWorded (sym (at_named t m es)) (all_at_moment (λ e. IsWorded e.happening) m (map (named_placed t) es) worded)

  next : State → ℕ → State
  next z m = record { atom = atom_after z (at m es); number = number_after scale z (at m es) }

  next_named : (m : ℕ) → next (seen t (r m)) m ≡ seen t (r (suc m))
  unfolding next
  next_named m = after_named t d (r m) scale (at m es) (now_worded m) ∙ ap (λ ts. seen t (after scale (r m) ts)) (at_named t m es)

  trace_named : (trace : ℕ → State) → IsRun scale (seen t s) es trace → (m : ℕ) → trace m ≡ seen t (r m)
  unfolding next
  trace_named trace v zero = v.first
  trace_named trace v (suc m) =
      ap trace (sym (add-one m))
      ∙ same_state (trace (m + 1)) (next (trace m) m) (v.next m).atoms (v.next m).numbers
      ∙ ap (λ z. next z m) (trace_named trace v m)
      ∙ next_named m

  happens_to : (m : ℕ) (new : State) → Happens scale (seen t (r m)) (at m es) new → CanHappen scale (r m) (map (named_timed t) (at m es))
  happens_to m new h = record {
    conditions = all_to (named_timed t) _ (λ e. holds_in (r m) e.happening.condition ≡ true) (λ e q. sym (holds_named t (r m) e.event.condition) ∙ q) (at m es) h.conditions;
    definedness = all_to (named_timed t) _ (λ e. defined_in scale (r m) e ≡ true) (λ e q. sym (defined_named t d (r m) scale e) ∙ q) (at m es) h.definedness;
    unmixed = unmixed_to t d (at m es) (now_worded m) h.unmixed;
    separate = sym (apart_named t d (at m es) (now_worded m)) ∙ h.separate;
  }

  happens_back : (m : ℕ) → CanHappen scale (r m) (map (named_timed t) (at m es)) → Happens scale (seen t (r m)) (at m es) (seen t (r (m + 1)))
  unfolding next
  happens_back m h = record {
    conditions = all_back (named_timed t) (λ e. holds (seen t (r m)) e.event.condition ≡ true) _ (λ e q. holds_named t (r m) e.event.condition ∙ q) (at m es) h.conditions;
    definedness = all_back (named_timed t) (λ e. is_defined scale (seen t (r m)) e ≡ true) _ (λ e q. defined_named t d (r m) scale e ∙ q) (at m es) h.definedness;
    unmixed = unmixed_back t d (at m es) (now_worded m) h.unmixed;
    separate = apart_named t d (at m es) (now_worded m) ∙ h.separate;
    atoms = λ a. ap (λ (z : State). z.atom a) (ap (λ k. seen t (r k)) (add-one m) ∙ sym (next_named m));
    numbers = λ f. ap (λ (z : State). z.number f) (ap (λ k. seen t (r k)) (add-one m) ∙ sym (next_named m));
  }

  allowed : (m ticks : ℕ) (l : Limit) → compares_values l.how (Some (pos ticks)) (both ◌*ℤ◌ (Some (pos scale)) (value (seen t (r m)) None l.value)) ≡ compares_values l.how (Some (pos ticks)) (both ◌*ℤ◌ (Some (pos scale)) (value_in (r m) None (named_limit t l).value))
  allowed m ticks l = ap (λ v. compares_values l.how (Some (pos ticks)) (both ◌*ℤ◌ (Some (pos scale)) v)) (value_named t (r m) None l.value)

  body_to : (moment duration : ℕ) (b : Body) → BodyHolds scale (λ m. seen t (r m)) moment duration b → BodyLasts scale r moment duration (named_body t b)
  body_to moment duration (Instant e) h = tt
  body_to moment duration (Durative start end invariant) h = record {
    tick = h.lawful.tick;
    constraint_holds = all_to (named_limit t) _ (Allows scale (r moment) duration) (λ l q. sym (allowed moment duration l) ∙ q) start.constraint.items h.lawful.constraint_holds;
    invariant_holds = λ m l k. sym (holds_named t (r (m + 1)) invariant) ∙ h.invariant_holds m l k;
  }

  body_back : (moment duration : ℕ) (b : Body) → BodyLasts scale r moment duration (named_body t b) → BodyHolds scale (λ m. seen t (r m)) moment duration b
  body_back moment duration (Instant e) h = tt
  body_back moment duration (Durative start end invariant) h = record {
    lawful = record {
      tick = h.tick;
      constraint_holds = all_back (named_limit t) (λ l. compares_values l.how (Some (pos duration)) (both ◌*ℤ◌ (Some (pos scale)) (value (seen t (r moment)) None l.value)) ≡ true) (Allows scale (r moment) duration) (λ l q. allowed moment duration l ∙ q) start.constraint.items h.constraint_holds;
    };
    invariant_holds = λ m l k. holds_named t (r (m + 1)) invariant ∙ h.invariant_holds m l k;
  }

module _ (t : Tables) (d : AreDistinct t) (scale : ℕ) (s : WordState) (goal : Cond) (plan : List Planned) (worded : AreWorded (map (named_placed t) (events plan))) where
  abbrev by_words : Type 0
  by_words = IsValidOver scale s (named_condition t goal) (map (named_placed t) (events plan)) (map (named_planned t) plan)

  abbrev r' : ℕ → WordState
  r' = run scale s (map (named_placed t) (events plan))

  valid_to : IsValid scale (seen t s) goal plan → by_words
  valid_to (trace, v) =
      let w : IsValidRun scale (seen t s) goal plan (λ m. seen t (r' m)) = subst (IsValidRun scale (seen t s) goal plan) (λ i m. trace_named t d scale s (events plan) worded trace v.run m i) v in
      record {
        can_happen = λ m. subst (CanHappen scale (r' m)) (at_named t m (events plan)) (happens_to t d scale s (events plan) worded m _ (w.run.next m));
        lasts = all_to (named_planned t) _ (λ p. BodyLasts scale r' p.moment p.duration p.body) (λ p h. body_to t d scale s (events plan) worded p.moment p.duration p.body h) plan w.steps;
        last = λ m h. sym (holds_named t (r' m) goal) ∙ w.last m (all_back (named_placed t) (λ e. e.moment < m) (λ e. e.moment < m) (λ e q. q) (events plan) h);
      }

  valid_back : by_words → IsValid scale (seen t s) goal plan
  valid_back v = (
    λ m. seen t (r' m),
    record {
      run = record {
        first = refl;
        next = λ m. happens_back t d scale s (events plan) worded m (subst (CanHappen scale (r' m)) (sym (at_named t m (events plan))) (v.can_happen m));
      };
      steps = all_back (named_planned t) (λ p. BodyHolds scale (λ m. seen t (r' m)) p.moment p.duration p.body) _ (λ p h. body_back t d scale s (events plan) worded p.moment p.duration p.body h) plan v.lasts;
      last = λ m h. holds_named t (r' m) goal ∙ v.last m (all_to (named_placed t) (λ e. e.moment < m) (λ e. e.moment < m) (λ e q. q) (events plan) h);
    },
  )

pub valid_named : (t : Tables) (d : AreDistinct t) (scale : ℕ) (s : WordState) (goal : Cond) (plan : List Planned) → AreWorded (parts (map (named_planned t) plan)) → IsValid scale (seen t s) goal plan ↔ IsValidByWords scale s (named_condition t goal) (map (named_planned t) plan)
valid_named t d scale s goal plan worded =
    let w = subst AreWorded (sym (parts_named t 0 plan)) worded in
    let over : List Part → Type 0 = λ es. IsValidOver scale s (named_condition t goal) es (map (named_planned t) plan) in
    (λ v. subst over (parts_named t 0 plan) (valid_to t d scale s goal plan w v), λ v. valid_back t d scale s goal plan w (subst over (sym (parts_named t 0 plan)) v))
