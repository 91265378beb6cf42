-- Plans of two tasks whose steps do the same by words have the same events, by number.
use Rattle.std.proofs.Common.{◌≡◌, ℕ, ◌+◌, List, [], ◌∷◌, refl, ap, ap₂, ◌∙◌, subst}
use Rattle.std.specs.List.{AllZip, AllByRecursion}
use Rattle.tp_task.specs.declared.events.Body.{Body}
use Rattle.tp_task.specs.declared.events.Body.TheVariants.{Instant, Durative}
use Rattle.tp_task.specs.Tables.{Tables}
use Rattle.tp_task.specs.Valid.{Planned, Placed, events_of, events_from, count_of}
use Rattle.tp_deorder.specs.Inequalities.{event_count_of}
use Rattle.tp_ground.specs.ReadBack.{named_body, named_condition, named_event}
use Rattle.tp_ground.specs.Reached.{happenings_of}
use Rattle.tp_ground.specs.Written.{GroundCondition, GroundHappening, GroundBody, instant, durative}
use Rattle.tp_ground_laws.proofs.OnEffects.{IsWorded}
use Rattle.tp_exec_laws.proofs.OnEvents.{IsSameEvent}
use Rattle.tp_exec_laws.proofs.OnLists.{zip_append}

-- what two actions do, the same by words
abbrev pub AreSameBodies : Tables → Tables → Body → Body → Type 0
AreSameBodies t u (Instant e) (Instant f) = IsSameEvent t u e f
AreSameBodies t u (Instant e) (Durative start end invariant) = ⊥
AreSameBodies t u (Durative start end invariant) (Instant e) = ⊥
AreSameBodies t u (Durative start end invariant) (Durative first last kept) =
    IsSameEvent t u start first × IsSameEvent t u end last × (named_condition t invariant ≡ named_condition u kept)

-- so for steps that do it at the same moment, as long
pub record IsSamePlanned (t u : Tables) (p q : Planned) : Type 0 where
  pub moment : p.moment ≡ q.moment
  pub duration : p.duration ≡ q.duration
  pub body : AreSameBodies t u p.body q.body

-- and for events of the same number
pub record IsSamePlaced (t u : Tables) (a b : Placed) : Type 0 where
  pub number : a.number ≡ b.number
  pub moment : a.moment ≡ b.moment
  pub event : IsSameEvent t u a.timed.event b.timed.event

-- ---- parts of what an action does by words

abbrev first_in : GroundBody → GroundHappening
first_in (instant h) = h
first_in (durative start end invariant) = start

abbrev last_in : GroundBody → GroundHappening
last_in (instant h) = h
last_in (durative start end invariant) = end

abbrev kept_in : GroundBody → GroundCondition
kept_in (instant h) = h.condition
kept_in (durative start end invariant) = invariant

module _ (t u : Tables) where
  pub same_bodies : (b c : Body) → named_body t b ≡ named_body u c → AllByRecursion IsWorded (happenings_of (named_body t b)) → AreSameBodies t u b c
  same_bodies (Instant e) (Instant f) h w = record { named = ap first_in h; worded = w.0 }
  same_bodies (Instant e) (Durative start end invariant) h w = absurd (cc)
  same_bodies (Durative start end invariant) (Instant e) h w = absurd (cc)
  same_bodies (Durative start end invariant) (Durative first last kept) h w =
      (record { named = ap first_in h; worded = w.0 }, record { named = ap last_in h; worded = w.1.0 }, ap kept_in h)

  pub same_named : (b c : Body) → AreSameBodies t u b c → named_body t b ≡ named_body u c
  same_named (Instant e) (Instant f) h = ap instant h.named
  same_named (Instant e) (Durative start end invariant) h = absurd h
  same_named (Durative start end invariant) (Instant e) h = absurd h
  same_named (Durative start end invariant) (Durative first last kept) h =
      ap₂ (λ (x y : GroundHappening). durative x y (named_condition t invariant)) h.0.named h.1.named
      ∙ ap (λ (k : GroundCondition). durative (named_event u first) (named_event u last) k) h.2

  pub same_count : (b c : Body) → AreSameBodies t u b c → count_of b ≡ count_of c
  same_count (Instant e) (Instant f) h = refl
  same_count (Instant e) (Durative start end invariant) h = absurd h
  same_count (Durative start end invariant) (Instant e) h = absurd h
  same_count (Durative start end invariant) (Durative first last kept) h = refl

  same_events_of : (k : ℕ) (p q : Planned) (b c : Body) → p.moment ≡ q.moment → p.duration ≡ q.duration → AreSameBodies t u b c → AllZip (IsSamePlaced t u) (events_of k p b) (events_of k q c)
  same_events_of k p q (Instant e) (Instant f) m l h = (record { number = refl; moment = m; event = h }, tt)
  same_events_of k p q (Instant e) (Durative start end invariant) m l h = absurd h
  same_events_of k p q (Durative start end invariant) (Instant e) m l h = absurd h
  same_events_of k p q (Durative start end invariant) (Durative first last kept) m l h =
      (record { number = refl; moment = m; event = h.0 }, (record { number = refl; moment = ap₂ (λ (x y : ℕ). x + y) m l; event = h.1 }, tt))

  pub same_events : (k : ℕ) (ps qs : List Planned) → AllZip (IsSamePlanned t u) ps qs → AllZip (IsSamePlaced t u) (events_from k ps) (events_from k qs)
  same_events k [] [] h = tt
  same_events k [] (q ∷ qs) h = absurd h
  same_events k (p ∷ ps) [] h = absurd h
  same_events k (p ∷ ps) (q ∷ qs) h =
      zip_append (IsSamePlaced t u) (events_of k p p.body) (events_of k q q.body) (events_from (k + count_of p.body) ps) (events_from (k + count_of q.body) qs)
      (same_events_of k p q p.body q.body h.0.moment h.0.duration h.0.body)
      (subst (λ (n : ℕ). AllZip (IsSamePlaced t u) (events_from (k + count_of p.body) ps) (events_from (k + n) qs)) (same_count p.body q.body h.0.body) (same_events (k + count_of p.body) ps qs h.1))

  pub same_event_count : (ps qs : List Planned) → AllZip (IsSamePlanned t u) ps qs → event_count_of ps ≡ event_count_of qs
  same_event_count [] [] h = refl
  same_event_count [] (q ∷ qs) h = absurd h
  same_event_count (p ∷ ps) [] h = absurd h
  same_event_count (p ∷ ps) (q ∷ qs) h = ap₂ (λ (x y : ℕ). x + y) (same_count p.body q.body h.0.body) (same_event_count ps qs h.1)
