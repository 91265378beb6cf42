-- Valid plans.
use Rattle.std.specs.Prelude.{◌≡◌, ℕ, ◌+◌, ◌≤◌, ◌<◌, true, ◌==◌, List, [], ◌∷◌, ◌++◌, Some, None, pos, ◌*ℤ◌, map}
use Rattle.std.specs.List.{AllByRecursion, filter}
use Rattle.tp_task.specs.declared.events.GroundEvent.{GroundEvent}
use Rattle.tp_task.specs.declared.events.Limit.{Limit}
use Rattle.tp_task.specs.declared.events.Cond.{Cond}
use Rattle.tp_task.specs.declared.events.Body.{Body}
use Rattle.tp_task.specs.declared.events.Body.TheVariants.{Instant, Durative}
use Rattle.tp_task.specs.State.{State, both, value, holds, compares_values}
use Rattle.tp_task.specs.Happens.{EventOfStep, Happens}

-- A step of a plan, with what its action does.
pub record Planned : Type 0 where
  pub moment : ℕ
  pub duration : ℕ
  pub body : Body

-- An event of a plan: its number, the numbers of its step's first and last event, its moment, and what happens.
pub record Placed : Type 0 where
  pub number : ℕ
  pub first : ℕ
  pub last : ℕ
  pub moment : ℕ
  pub timed : EventOfStep

-- The events of a step, numbered from k: its one event, or its start and its end.
abbrev pub events_of : ℕ → Planned → Body → List Placed
events_of k p (Instant e) =
    record {
      number = k;
      first = k;
      last = k;
      moment = p.moment;
      timed = record { event = e; ticks = 0 };
    } ∷ []
events_of k p (Durative start end invariant) =
    record {
      number = k;
      first = k;
      last = k + 1;
      moment = p.moment;
      timed = record { event = start; ticks = p.duration };
    }
    ∷ record {
      number = k + 1;
      first = k;
      last = k + 1;
      moment = p.moment + p.duration;
      timed = record { event = end; ticks = p.duration };
    } ∷ []

abbrev pub count_of : Body → ℕ
count_of (Instant e) = 1
count_of (Durative start end invariant) = 2

-- the events of steps, numbered from k
abbrev pub events_from : ℕ → List Planned → List Placed
events_from k [] = []
events_from k (p ∷ ps) = events_of k p p.body ++ events_from (k + count_of p.body) ps

abbrev pub events : List Planned → List Placed
events plan = events_from 0 plan

-- the events at a moment
abbrev pub at : ℕ → List Placed → List EventOfStep
at m es = map (λ e. e.timed) (filter (λ e. e.moment == m) es)

-- A duration is lawful: it is at least a tick, and each comparison of the duration constraint holds for it.
pub record IsLawful (scale : ℕ) (s : State) (constraint : List Limit) (ticks : ℕ) : Type 0 where
  pub tick : 1 ≤ ticks
  pub constraint_holds :
      AllByRecursion (λ l. compares_values l.how
      (Some (pos ticks)) (both ◌*ℤ◌ (Some (pos scale)) (value s None l.value)) ≡ true) constraint

-- A step's duration is lawful before its start, and its invariant holds after each moment from its start to before its end.
pub record StepHolds (scale : ℕ) (trace : ℕ → State) (moment duration : ℕ) (start : GroundEvent)
    (invariant : Cond) : Type 0 where
  pub lawful : IsLawful scale (trace moment) start.constraint.items duration
  pub invariant_holds :
      (m : ℕ) → moment ≤ m → m < moment + duration → holds (trace (m + 1)) invariant ≡ true

abbrev pub BodyHolds : ℕ → (ℕ → State) → ℕ → ℕ → Body → Type 0
BodyHolds scale trace moment duration (Instant e) = Unit {0}
BodyHolds scale trace moment duration (Durative start end invariant) =
    StepHolds scale trace moment duration start invariant

-- A run of a plan: the state before each moment, from the initial state on. A moment without events changes nothing.
pub record IsRun (scale : ℕ) (initial : State) (es : List Placed) (trace : ℕ → State) : Type 0 where
  pub first : trace 0 ≡ initial
  pub next : (m : ℕ) → Happens scale (trace m) (at m es) (trace (m + 1))

-- A plan is valid if it has a run in which each duration is lawful, each invariant holds, and the goal holds in the end.
pub record IsValidRun (scale : ℕ) (initial : State) (goal : Cond) (plan : List Planned)
    (trace : ℕ → State) : Type 0 where
  pub run : IsRun scale initial (events plan) trace
  pub steps : AllByRecursion (λ p. BodyHolds scale trace p.moment p.duration p.body) plan
  pub last :
      (m : ℕ) → AllByRecursion (λ e. e.moment < m) (events plan) → holds (trace m) goal ≡ true

abbrev pub IsValid : ℕ → State → Cond → List Planned → Type 0
IsValid scale initial goal plan = (trace : ℕ → State) × IsValidRun scale initial goal plan trace
