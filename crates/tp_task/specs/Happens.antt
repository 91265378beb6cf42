-- What a happening does to a state.
use Rattle.std.specs.Prelude.{◌≡◌, ℕ, Bool, true, false, ◌==◌, not, ◌&&◌, ◌||◌, if◌then◌else◌, List, [], ◌∷◌, Option, Some, None, ℤ, pos, ◌+ℤ◌, ◌*ℤ◌, neg_ℤ, is_some}
use Rattle.std.specs.List.{list_any, list_all, AllByRecursion}
use Rattle.tp_task.specs.declared.events.Change.{Change}
use Rattle.tp_task.specs.declared.events.Change.TheVariants.{Assign, ScaleUp, Increase, Decrease}
use Rattle.tp_task.specs.declared.events.NumericEffect.{NumericEffect}
use Rattle.tp_task.specs.declared.events.GroundEvent.{GroundEvent}
use Rattle.tp_task.specs.State.{State, both, value, units, holds}
use Rattle.tp_task.specs.Event.{has, is_additive, fluents_set, interferes, mixes}

-- An event with the ticks of its step.
pub record EventOfStep : Type 0 where
  pub event : GroundEvent
  pub ticks : ℕ

-- What a setting write sets its fluent to, and what an additive write adds to it.
abbrev pub value_set : State → Option ℤ → NumericEffect → Change → Option ℤ
value_set s duration w Assign = value s duration w.value
value_set s duration w ScaleUp = both ◌*ℤ◌ (s.number w.fluent) (value s duration w.value)
value_set s duration w Increase = None
value_set s duration w Decrease = None

abbrev pub amount : Change → Option ℤ → ℤ
amount Increase (Some x) = x
amount Decrease (Some x) = neg_ℤ x
amount Assign v = pos 0
amount ScaleUp v = pos 0
amount Increase None = pos 0
amount Decrease None = pos 0

-- The value that writes set a fluent to, or the other one where none sets it.
abbrev pub set_in : State → Option ℤ → List NumericEffect → ℕ → Option ℤ → Option ℤ
set_in s duration [] f other = other
set_in s duration (w ∷ ws) f other =
    if (w.fluent == f) && not (is_additive w.change) then value_set s duration w w.change
    else set_in s duration ws f other

-- The sum of what writes add to a fluent.
abbrev pub added_in : State → Option ℤ → List NumericEffect → ℕ → ℤ
added_in s duration [] f = pos 0
added_in s duration (w ∷ ws) f =
    (if w.fluent == f then amount w.change (value s duration w.value) else pos 0)
    +ℤ added_in s duration ws f

-- The same for the events of a happening.
abbrev pub set_by : ℕ → State → List EventOfStep → ℕ → Option ℤ → Option ℤ
set_by scale s [] f other = other
set_by scale s (t ∷ ts) f other =
    if has (fluents_set t.event) f then set_in s (units scale t.ticks) t.event.writes.items f other
    else set_by scale s ts f other

abbrev pub added_by : ℕ → State → List EventOfStep → ℕ → ℤ
added_by scale s [] f = pos 0
added_by scale s (t ∷ ts) f =
    added_in s (units scale t.ticks) t.event.writes.items f +ℤ added_by scale s ts f

abbrev pub plus : ℤ → Option ℤ → Option ℤ
plus x (Some y) = Some (y +ℤ x)
plus x None = None

-- The state after a happening: an atom is true if some event adds it, or if it was true and none deletes it;
-- a fluent has the value set, or its old value plus the sum of all increases less all decreases.
abbrev pub atom_after : State → List EventOfStep → ℕ → Bool
atom_after s ts a =
    list_any (λ t. has t.event.adds.items a) ts
    || (s.atom a && not (list_any (λ t. has t.event.deletes.items a) ts))

abbrev pub number_after : ℕ → State → List EventOfStep → ℕ → Option ℤ
number_after scale s ts f = set_by scale s ts f (plus (added_by scale s ts f) (s.number f))

abbrev pub is_assign : Change → Bool
is_assign Assign = true
is_assign ScaleUp = false
is_assign Increase = false
is_assign Decrease = false

-- The right sides, the duration constraint and the fluents that `increase`, `decrease` and `scale-up` change have
-- values.
abbrev pub is_defined : ℕ → State → EventOfStep → Bool
is_defined scale s t =
    list_all (λ w. is_some (value s (units scale t.ticks) w.value)
    && (is_assign w.change || is_some (s.number w.fluent))) t.event.writes.items
    && list_all (λ l. is_some (value s None l.value)) t.event.constraint.items

-- no event of a list interferes with another
abbrev pub apart : List EventOfStep → Bool
apart [] = true
apart (t ∷ ts) = list_all (λ u. not (interferes t.event u.event)) ts && apart ts

-- The events can happen in a state, and lead to the other.
pub record Happens (scale : ℕ) (old : State) (ts : List EventOfStep) (new : State) : Type 0 where
  pub conditions : AllByRecursion (λ t. holds old t.event.condition ≡ true) ts
  pub definedness : AllByRecursion (λ t. is_defined scale old t ≡ true) ts
  pub unmixed : AllByRecursion (λ t. mixes t.event ≡ false) ts
  pub separate : apart ts ≡ true
  pub atoms : (a : ℕ) → new.atom a ≡ atom_after old ts a
  pub numbers : (f : ℕ) → new.number f ≡ number_after scale old ts f
