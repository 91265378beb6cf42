-- The first fault of a happening.
use Rattle.std.specs.Prelude.{◌≡◌, ℕ, ◌+◌, not, List, [], ◌∷◌, Option, Some, None}
use Rattle.std.specs.List.{position_from}
use Rattle.tp_task.specs.State as spec
use Rattle.tp_task.specs.Event.{interferes, mixes}
use Rattle.tp_task.specs.Happens.{EventOfStep, is_defined, Happens}
use Rattle.tp_happen.specs.Stored.{Stored, state_of}
use Rattle.tp_happen.specs.declared.faults.Why.{Why}
use Rattle.tp_happen.specs.declared.faults.Why.TheVariants.{Condition, Undefined, Clash, Interferes}
use Rattle.tp_happen.specs.declared.faults.Outcome.{Outcome}
use Rattle.tp_happen.specs.declared.faults.Outcome.TheVariants.{Next, Fails}
use Rattle.tp_happen.specs.declared.happening.ApplyFault.{ApplyFault}
use Rattle.tp_happen.specs.declared.happening.ApplyFault.TheVariants.{Memory, Range}

abbrev pub pair_or : ℕ → Option ℕ → Option (ℕ × ℕ) → Option (ℕ × ℕ)
pair_or i (Some j) other = Some (i, j)
pair_or i None other = other

-- the first two events that interfere, of a list that is numbered from i
abbrev pub first_pair : ℕ → List EventOfStep → Option (ℕ × ℕ)
first_pair i [] = None
first_pair i (t ∷ ts) =
    pair_or i
    (position_from (λ (u : EventOfStep). interferes t.event u.event) (i + 1) ts) (first_pair (i + 1) ts)

abbrev pub named : Why → Option ℕ → Option (ℕ × Why)
named why (Some i) = Some (i, why)
named why None = None

abbrev pub named_pair : Option (ℕ × ℕ) → Option (ℕ × Why)
named_pair (Some p) = Some (p.0, Interferes p.1)
named_pair None = None

abbrev pub or_fault : Option (ℕ × Why) → Option (ℕ × Why) → Option (ℕ × Why)
or_fault (Some f) other = Some f
or_fault None other = other

-- An undefined value, then a condition, a clash, an interference; each by the lowest number.
abbrev pub fault_of : ℕ → spec.State → List EventOfStep → Option (ℕ × Why)
fault_of scale s ts =
    or_fault (named Undefined (position_from (λ t. not (is_defined scale s t)) 0 ts))
    (or_fault (named Condition
    (position_from (λ (t : EventOfStep). not (spec.holds s t.event.condition)) 0 ts))
    (or_fault (named Clash (position_from (λ (t : EventOfStep). mixes t.event) 0 ts))
    (named_pair (first_pair 0 ts))))

-- What `apply` answers: the state after the happening, or the first fault.
abbrev pub Applies : Stored → List EventOfStep → Outcome → Type 0
Applies old ts (Next new) = Happens old.scale (state_of old) ts (state_of new)
Applies old ts (Fails i why) = fault_of old.scale (state_of old) ts ≡ Some (i, why)

-- a fact of the state that is answered, if one is
abbrev pub OnNext : Outcome → (Stored → Type 0) → Type 0
OnNext (Next new) P = P new
OnNext (Fails i why) P = Unit {0}

-- a fact of the answer that a number passed the limit
abbrev pub OnRange : ApplyFault → Type 0 → Type 0
OnRange Memory P = Unit {0}
OnRange Range P = P
