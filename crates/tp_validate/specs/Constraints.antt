-- Duration constraints: how many ticks they allow in a state up to a horizon, all from the least to the greatest, and
-- whether their numbers are small.
use Rattle.std.specs.Prelude.{ℕ, ◌+◌, Bool, true, not, ◌&&◌, ◌||◌, ◌==◌, List, [], ◌∷◌, Option, Some, None, ℤ, pos, ◌+ℤ◌, ◌-ℤ◌, ◌*ℤ◌, int_le}
use Rattle.std.specs.Int.{int_max, int_min}
use Rattle.std.specs.List.{list_all}
use Rattle.tp_task.specs.declared.events.Body.{Body}
use Rattle.tp_task.specs.declared.events.Body.TheVariants.{Instant, Durative}
use Rattle.tp_task.specs.declared.events.Comparison.{Comparison}
use Rattle.tp_task.specs.declared.events.Comparison.TheVariants.{Less, AtMost, Equal, AtLeast, Greater}
use Rattle.tp_task.specs.declared.events.Limit.{Limit}
use Rattle.tp_task.specs.State.{State, both, value, compares_values}
use Rattle.tp_task.specs.Valid.{Planned}
use Rattle.tp_happen.specs.Small.{values_small}
use Rattle.tp_validate.specs.declared.durations.Ticks.{Ticks}

-- a comparison of the duration constraint holds for so many ticks
abbrev pub limit_holds : ℕ → State → ℕ → Limit → Bool
limit_holds scale s ticks l =
    compares_values l.how (Some (pos ticks)) (both ◌*ℤ◌ (Some (pos scale)) (value s None l.value))

-- a number of ticks is among them
abbrev pub is_among : Ticks → ℕ → Bool
is_among s ticks = int_le s.least (pos ticks) && int_le (pos ticks) s.most

abbrev pub from_least : Ticks → ℤ → Ticks
from_least s x = record { least = int_max s.least x; most = s.most }

abbrev pub to_most : Ticks → ℤ → Ticks
to_most s x = record { least = s.least; most = int_min s.most x }

-- Those of them that a comparison with a number of ticks allows.
abbrev pub narrowed : Ticks → Comparison → ℤ → Ticks
narrowed s Less x = to_most s (x -ℤ pos 1)
narrowed s AtMost x = to_most s x
narrowed s Equal x = to_most (from_least s x) x
narrowed s AtLeast x = from_least s x
narrowed s Greater x = from_least s (x +ℤ pos 1)

-- the same of a value: one that is missing allows none up to the horizon
abbrev pub narrowed_by : ℕ → Ticks → Comparison → Option ℤ → Ticks
narrowed_by horizon s how (Some x) = narrowed s how x
narrowed_by horizon s how None = from_least s (pos (horizon + 1))

abbrev pub narrowed_all : ℕ → ℕ → State → Ticks → List Limit → Ticks
narrowed_all horizon scale s now [] = now
narrowed_all horizon scale s now (l ∷ ls) =
    narrowed_all horizon scale s
    (narrowed_by horizon now l.how (both ◌*ℤ◌ (Some (pos scale)) (value s None l.value))) ls

-- The lawful durations up to the horizon.
abbrev pub lawful_ticks : ℕ → ℕ → State → List Limit → Ticks
lawful_ticks horizon scale s constraint =
    narrowed_all horizon scale s (record { least = pos 1; most = pos horizon }) constraint

-- the expressions of an action's duration constraint are small
abbrev pub start_small : State → Body → Bool
start_small s (Instant e) = true
start_small s (Durative start end invariant) =
    list_all (λ l. values_small s None l.value) start.constraint.items

-- those of a step, if it starts at the moment
abbrev pub constraint_small_at : State → ℕ → Planned → Bool
constraint_small_at s m p = not (p.moment == m) || start_small s p.body
