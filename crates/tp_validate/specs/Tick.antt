-- What there is to find at one moment of a plan.
use Rattle.std.specs.Prelude.{◌≡◌, ℕ, ◌+◌, Bool, true, false, not, ◌&&◌, ◌||◌, ◌==◌, nat_le, nat_lt, List, Option, None, ◌⊎◌, slice_index_or}
use Rattle.std.specs.List.{list_all, position_from}
use Rattle.tp_task.specs.declared.events.Body.{Body}
use Rattle.tp_task.specs.declared.events.Body.TheVariants.{Instant, Durative}
use Rattle.tp_task.specs.State.{State, holds}
use Rattle.tp_task.specs.Event.{mixes}
use Rattle.tp_task.specs.Happens.{EventOfStep, Happens, is_defined, atom_after, number_after}
use Rattle.tp_task.specs.Valid.{Planned, Placed, at}
use Rattle.tp_task.specs.Verdict as fault
use Rattle.tp_task.specs.Verdict.{Fault, fault_or, first_pair, is_unlawful, is_broken}
use Rattle.tp_happen.specs.Small.{all_small}
use Rattle.tp_happen.specs.Bounded.{Passes}
use Rattle.tp_happen.specs.declared.faults.Why.{Why}
use Rattle.tp_happen.specs.declared.faults.Why.TheVariants.{Condition, Undefined, Clash, Interferes}

-- the state that the effects of some events make
abbrev pub after_of : ℕ → State → List EventOfStep → State
after_of scale s ts = record { atom = atom_after s ts; number = number_after scale s ts }

-- the fault of the events at a moment, by their numbers, else another
abbrev pub of_events : ℕ → State → ℕ → List Placed → Option Fault → Option Fault
of_events scale s m es rest =
    fault_or fault.Undefined
    (position_from (λ (e : Placed). (e.moment == m) && not (is_defined scale s e.timed)) 0 es)
    (fault_or fault.Condition (position_from (λ (e : Placed). (e.moment == m)
    && not (holds s e.timed.event.condition)) 0 es)
    (fault_or fault.Clash (position_from (λ (e : Placed). (e.moment == m)
    && mixes e.timed.event) 0 es)
    (fault_or (λ (p : ℕ × ℕ). fault.Interferes p.0 p.1) (first_pair m 0 es) rest)))

-- the fault at a moment, from the state before it and the events there
abbrev pub fault_from : ℕ → State → ℕ → List Planned → List Placed → Option Fault
fault_from scale s m ps es =
    fault_or fault.Duration (position_from
    (λ (p : Planned). (p.moment == m) && is_unlawful scale s p.duration p.body) 0 ps)
    (of_events scale s m es
    (fault_or fault.OverAll
    (position_from (λ (p : Planned). is_broken (after_of scale s (at m es)) m p p.body) 0 ps) None))

-- the expressions of an invariant that runs past a moment are small after it
abbrev pub invariant_small : State → ℕ → Planned → Body → Bool
invariant_small after m p (Instant e) = true
invariant_small after m p (Durative start end invariant) =
    not (nat_le p.moment m && nat_lt m (p.moment + p.duration)) || all_small after invariant

-- A number passes the limit at a moment: in a happening there, or in an invariant after it.
abbrev pub PassesAt : ℕ → State → ℕ → List Planned → List Placed → Type 0
PassesAt scale s m ps es =
    Passes scale s (at m es)
    ⊎ (Happens scale s (at m es) (after_of scale s (at m es))
    × (list_all (λ p. invariant_small (after_of scale s (at m es)) m p p.body) ps ≡ false))

-- a fault of a happening, its events named by their numbers
abbrev pub renumbered : List ℕ → ℕ → Why → Fault
renumbered ns i Condition = fault.Condition (slice_index_or ns i 0)
renumbered ns i Undefined = fault.Undefined (slice_index_or ns i 0)
renumbered ns i Clash = fault.Clash (slice_index_or ns i 0)
renumbered ns i (Interferes j) = fault.Interferes (slice_index_or ns i 0) (slice_index_or ns j 0)
