-- The bounds of a plan, as statements on an assignment of moments to its events, and the plan of such an assignment.
use Rattle.std.specs.Prelude.{◌≡◌, ◌≢◌, ℕ, ◌+◌, ◌-◌, ◌≤◌, ◌<◌, Bool, true, ◌||◌, ◌⊎◌, List, [], ◌∷◌, ◌++◌, MatchBool}
use Rattle.std.specs.List.{list_any}
use Rattle.tp_task.specs.declared.events.GroundEvent.{GroundEvent}
use Rattle.tp_task.specs.declared.events.Cond.{Cond}
use Rattle.tp_task.specs.declared.events.Body.{Body}
use Rattle.tp_task.specs.declared.events.Body.TheVariants.{Instant, Durative}
use Rattle.tp_task.specs.State.{State, atoms_in, fluents_in, mentions_duration}
use Rattle.tp_task.specs.Event.{meets, fluents_written, interferes}
use Rattle.tp_task.specs.Valid.{Planned, Placed, events, count_of, IsLawful}

-- x is an element of the list
abbrev pub In : {X : Type 0} → X → List X → Type 0
In x [] = ⊥
In x (y ∷ ys) = (x ≡ y) ⊎ In x ys

-- the effects of an event mention the duration
abbrev pub uses_duration : GroundEvent → Bool
uses_duration e = list_any (λ w. mentions_duration w.value) e.writes.items

-- an event writes an atom or a fluent that a condition mentions
abbrev pub writes_into : GroundEvent → Cond → Bool
writes_into e c =
    meets (e.adds.items ++ e.deletes.items) (atoms_in c) || meets (fluents_written e) (fluents_in c)

-- The difference between a step's end and start is a lawful duration in the state before its start, or the plan's
-- duration if an effect mentions it.
pub record KeepsDuration (scale : ℕ) (before : State) (duration : ℕ) (start end : GroundEvent)
    (from to : ℕ) : Type 0 where
  pub ticks : ℕ
  pub apart : to ≡ from + ticks
  pub lawful :
      MatchBool (uses_duration start || uses_duration end)
      (ticks ≡ duration) (IsLawful scale before start.constraint.items ticks)

-- An event other than the step's own, that writes into its invariant.
pub record Touches (e : Placed) (first : ℕ) (invariant : Cond) : Type 0 where
  pub not_start : e.number ≢ first
  pub not_end : e.number ≢ first + 1
  pub writes : writes_into e.timed.event invariant ≡ true

-- Events that write into an invariant stay before its start, after its end, or between them in the plan's order.
pub record KeepsInvariant (es : List Placed) (t : ℕ → ℕ) (first start end : ℕ)
    (invariant : Cond) : Type 0 where
  pub before :
      (e : Placed) → In e es → Touches e first invariant → e.moment ≤ start → t e.number ≤ t first
  pub behind :
      (e : Placed)
      → In e es → Touches e first invariant → end ≤ e.moment → t (first + 1) ≤ t e.number
  pub between :
      (e : Placed) → In e es
      → Touches e first invariant → start < e.moment → e.moment < end → (t first ≤ t e.number)
      × (t e.number ≤ t (first + 1))
  pub in_order :
      (e g : Placed) → In e es → In g es → Touches e first invariant → Touches g first invariant
      → start < e.moment → e.moment ≤ g.moment → g.moment < end → t e.number ≤ t g.number

pub record StepKeeps (scale : ℕ) (trace : ℕ → State) (es : List Placed) (t : ℕ → ℕ) (k : ℕ)
    (p : Planned) (start end : GroundEvent) (invariant : Cond) : Type 0 where
  pub duration : KeepsDuration scale (trace p.moment) p.duration start end (t k) (t (k + 1))
  pub invariant_kept : KeepsInvariant es t k p.moment (p.moment + p.duration) invariant

abbrev pub BodyKeeps : ℕ → (ℕ → State) → List Placed → (ℕ → ℕ) → ℕ → Planned → Body → Type 0
BodyKeeps scale trace es t k p (Instant e) = Unit {0}
BodyKeeps scale trace es t k p (Durative start end invariant) =
    StepKeeps scale trace es t k p start end invariant

abbrev pub StepsKeep : ℕ → (ℕ → State) → List Placed → (ℕ → ℕ) → ℕ → List Planned → Type 0
StepsKeep scale trace es t k [] = Unit {0}
StepsKeep scale trace es t k (p ∷ ps) =
    BodyKeeps scale trace es t k p p.body × StepsKeep scale trace es t (k + count_of p.body) ps

-- An assignment of moments to the events of a plan meets the plan's bounds.
pub record MeetsBounds (scale : ℕ) (trace : ℕ → State) (plan : List Planned)
    (t : ℕ → ℕ) : Type 0 where
  -- interfering events keep their order, at least one tick apart
  pub order :
      (a b : Placed)
      → In a (events plan) → In b (events plan) → interferes a.timed.event b.timed.event ≡ true
      → a.moment < b.moment → t a.number < t b.number
  pub steps : StepsKeep scale trace (events plan) t 0 plan

-- The plan of an assignment: the same steps at the moments of their first events, as long as to their last.
abbrev pub retimed_body : (ℕ → ℕ) → ℕ → Body → Planned
retimed_body t k (Instant e) = record { moment = t k; duration = 0; body = Instant e }
retimed_body t k (Durative start end invariant) =
    record { moment = t k; duration = t (k + 1) - t k; body = Durative start end invariant }

abbrev pub retimed_from : (ℕ → ℕ) → ℕ → List Planned → List Planned
retimed_from t k [] = []
retimed_from t k (p ∷ ps) = retimed_body t k p.body ∷ retimed_from t (k + count_of p.body) ps

abbrev pub retimed : (ℕ → ℕ) → List Planned → List Planned
retimed t plan = retimed_from t 0 plan
