-- The first fault of a plan.
use Rattle.std.specs.Prelude.{◌≡◌, ℕ, zero, suc, ◌+◌, ◌<◌, Bool, false, not, ◌&&◌, ◌==◌, nat_le, nat_lt, List, [], ◌∷◌, Option, Some, None, is_some, pos, ◌*ℤ◌, max}
use Rattle.std.specs.List.{list_all, position_from}
use Rattle.tp_task.specs.declared.events.Body.{Body}
use Rattle.tp_task.specs.declared.events.Body.TheVariants.{Instant, Durative}
use Rattle.tp_task.specs.declared.events.Cond.{Cond}
use Rattle.tp_task.specs.State.{State, both, value, holds, compares_values}
use Rattle.tp_task.specs.Event.{interferes, mixes}
use Rattle.tp_task.specs.Happens.{is_defined, atom_after, number_after}
use Rattle.tp_task.specs.Valid.{Planned, Placed, events, at}

pub data Fault : Type 0 where
  Duration : (step : ℕ) → Fault
  Undefined : (event : ℕ) → Fault
  Condition : (event : ℕ) → Fault
  Clash : (event : ℕ) → Fault
  Interferes : (event other : ℕ) → Fault
  OverAll : (step : ℕ) → Fault
  Goal : Fault

-- the states before each moment, as the effects alone make them
abbrev pub states : ℕ → State → List Placed → ℕ → State
states scale initial es zero = initial
states scale initial es (suc m) =
    record {
      atom = atom_after (states scale initial es m) (at m es);
      number = number_after scale (states scale initial es m) (at m es);
    }

-- A step's duration constraint has values and its duration isn't lawful; an invariant that runs past a moment doesn't
-- hold after it.
abbrev pub is_unlawful : ℕ → State → ℕ → Body → Bool
is_unlawful scale s ticks (Instant e) = false
is_unlawful scale s ticks (Durative start end invariant) =
    list_all (λ l. is_some (value s None l.value)) start.constraint.items
    && not (nat_le 1 ticks && list_all (λ l. compares_values l.how
    (Some (pos ticks)) (both ◌*ℤ◌ (Some (pos scale)) (value s None l.value))) start.constraint.items)

abbrev pub is_broken : State → ℕ → Planned → Body → Bool
is_broken after m p (Instant e) = false
is_broken after m p (Durative start end invariant) =
    nat_le p.moment m && (nat_lt m (p.moment + p.duration) && not (holds after invariant))

abbrev pub pair_or : ℕ → Option ℕ → Option (ℕ × ℕ) → Option (ℕ × ℕ)
pair_or i (Some j) other = Some (i, j)
pair_or i None other = other

-- the first two events at a moment that interfere, of a list that is numbered from i
abbrev pub first_pair : ℕ → ℕ → List Placed → Option (ℕ × ℕ)
first_pair m i [] = None
first_pair m i (e ∷ es) =
    pair_or i (position_from (λ (u : Placed). ((e.moment == m) && (u.moment == m))
    && interferes e.timed.event u.timed.event) (i + 1) es) (first_pair m (i + 1) es)

abbrev pub fault_or : {X : Type 0} → (X → Fault) → Option X → Option Fault → Option Fault
fault_or name (Some x) other = Some (name x)
fault_or name None other = other

-- The fault at a moment: durations, undefined values, conditions, clashes, interference, invariants, each by the lowest number.
abbrev pub fault_at : ℕ → State → List Planned → ℕ → Option Fault
fault_at scale initial plan m =
    let before : State = states scale initial (events plan) m in
    let after : State = states scale initial (events plan) (suc m) in
    fault_or Duration (position_from
    (λ (p : Planned). (p.moment == m) && is_unlawful scale before p.duration p.body) 0 plan)
    (fault_or Undefined (position_from (λ (e : Placed). (e.moment == m)
    && not (is_defined scale before e.timed)) 0 (events plan))
    (fault_or Condition (position_from (λ (e : Placed). (e.moment == m)
    && not (holds before e.timed.event.condition)) 0 (events plan))
    (fault_or Clash (position_from (λ (e : Placed). (e.moment == m)
    && mixes e.timed.event) 0 (events plan))
    (fault_or (λ (p : ℕ × ℕ). Interferes p.0 p.1) (first_pair m 0 (events plan))
    (fault_or OverAll (position_from (λ (p : Planned). is_broken after m p p.body) 0 plan) None)))))

-- the last moment with an event, 0 if there is none
abbrev pub last_moment : List Placed → ℕ
last_moment [] = 0
last_moment (e ∷ es) = max e.moment (last_moment es)

-- The first fault of a plan, and its moment.
pub data IsFirstFault (scale : ℕ) (initial : State) (goal : Cond) (plan : List Planned) :
    ℕ → Fault → Type 0 where
  at_moment :
      {m : ℕ} {why : Fault} → ((k : ℕ) → k < m → fault_at scale initial plan k ≡ None)
      → fault_at scale initial plan m ≡ Some why → IsFirstFault scale initial goal plan m why
  at_goal :
      {m : ℕ} → ((k : ℕ) → fault_at scale initial plan k ≡ None) → m ≡ last_moment (events plan)
      → holds (states scale initial (events plan) (suc m)) goal ≡ false
      → IsFirstFault scale initial goal plan m Goal
