-- The numbers with which a happening is worked out, and when one of them passes 10^15 in absolute value.
use Rattle.std.specs.Prelude.{◌≡◌, ℕ, Bool, true, false, ◌==◌, ◌&&◌, ◌⊎◌, if◌then◌else◌, List, [], ◌∷◌, Option, None, ℤ, ◌+ℤ◌, ◌-ℤ◌, ◌*ℤ◌}
use Rattle.std.specs.List.{list_all}
use Rattle.tp_task.specs.declared.events.Change.{Change}
use Rattle.tp_task.specs.declared.events.Change.TheVariants.{Assign, ScaleUp, Increase, Decrease}
use Rattle.tp_task.specs.declared.events.NumericEffect.{NumericEffect}
use Rattle.tp_task.specs.State.{State, both, value, units}
use Rattle.tp_task.specs.Happens.{EventOfStep}
use Rattle.tp_task.specs.InOrder.{after_write, after_writes}
use Rattle.tp_happen.specs.Small.{is_small, values_small, all_small}

-- the product that a `scale-up` sets
abbrev pub product_small : State → Option ℤ → NumericEffect → Change → Bool
product_small s d w Assign = true
product_small s d w ScaleUp =
    is_small (s.number w.fluent) && is_small (both ◌*ℤ◌ (s.number w.fluent) (value s d w.value))
product_small s d w Increase = true
product_small s d w Decrease = true

-- the expressions of a numeric effect: its right side, and the product of a `scale-up`
abbrev pub effect_small : State → Option ℤ → NumericEffect → Bool
effect_small s d w = values_small s d w.value && product_small s d w w.change

-- those of all effects of an event, and those of its duration constraint
abbrev pub effects_small : ℕ → State → EventOfStep → Bool
effects_small scale s t = list_all (effect_small s (units scale t.ticks)) t.event.writes.items

abbrev pub constraint_small : State → EventOfStep → Bool
constraint_small s t = list_all (λ l. values_small s None l.value) t.event.constraint.items

-- the expressions of an event: those of its condition, of its effects and of its duration constraint
abbrev pub event_small : ℕ → State → EventOfStep → Bool
event_small scale s t = all_small s t.event.condition && (effects_small scale s t && constraint_small s t)

-- what a fluent has before an additive write, and the sum that the write makes of it
abbrev pub sum_small : State → Option ℤ → NumericEffect → Change → Option ℤ → Bool
sum_small s d w Assign now = true
sum_small s d w ScaleUp now = true
sum_small s d w Increase now = is_small now && is_small (both ◌+ℤ◌ now (value s d w.value))
sum_small s d w Decrease now = is_small now && is_small (both ◌-ℤ◌ now (value s d w.value))

-- the partial sums of the writes to one fluent, one write after another
abbrev pub sums_small : State → Option ℤ → List NumericEffect → ℕ → Option ℤ → Bool
sums_small s d [] f now = true
sums_small s d (w ∷ ws) f now =
    if w.fluent == f then sum_small s d w w.change now
    && sums_small s d ws f (after_write s d w w.change now) else sums_small s d ws f now

-- the same for the events of a happening, in the order in which they are listed
abbrev pub all_sums_small : ℕ → State → List EventOfStep → ℕ → Option ℤ → Bool
all_sums_small scale s [] f now = true
all_sums_small scale s (t ∷ ts) f now =
    sums_small s (units scale t.ticks) t.event.writes.items f now && all_sums_small scale s ts f
    (after_writes s (units scale t.ticks) t.event.writes.items f now)

-- No expression of the events and no partial sum of a fluent's writes, from its old value on, passes the limit.
pub record StaysSmall (scale : ℕ) (s : State) (ts : List EventOfStep) : Type 0 where
  pub expressions : list_all (event_small scale s) ts ≡ true
  pub sums : (f : ℕ) → all_sums_small scale s ts f (s.number f) ≡ true

-- One of them does.
abbrev pub Passes : ℕ → State → List EventOfStep → Type 0
Passes scale s ts =
    (list_all (event_small scale s) ts ≡ false)
    ⊎ ((f : ℕ) × (all_sums_small scale s ts f (s.number f) ≡ false))
