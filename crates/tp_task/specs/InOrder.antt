-- What writes do to one fluent, one write after another.
use Rattle.std.specs.Prelude.{ℕ, Bool, true, false, ◌==◌, if◌then◌else◌, List, [], ◌∷◌, Option, ℤ, ◌+ℤ◌, ◌-ℤ◌, ◌*ℤ◌}
use Rattle.tp_task.specs.declared.events.Change.{Change}
use Rattle.tp_task.specs.declared.events.Change.TheVariants.{Assign, ScaleUp, Increase, Decrease}
use Rattle.tp_task.specs.declared.events.NumericEffect.{NumericEffect}
use Rattle.tp_task.specs.State.{State, both, value, units}
use Rattle.tp_task.specs.Event.{has}
use Rattle.tp_task.specs.Happens.{EventOfStep}

-- a write, whose right side is evaluated in the state before the happening
abbrev pub after_write : State → Option ℤ → NumericEffect → Change → Option ℤ → Option ℤ
after_write s d w Assign now = value s d w.value
after_write s d w ScaleUp now = both ◌*ℤ◌ (s.number w.fluent) (value s d w.value)
after_write s d w Increase now = both ◌+ℤ◌ now (value s d w.value)
after_write s d w Decrease now = both ◌-ℤ◌ now (value s d w.value)

abbrev pub after_writes : State → Option ℤ → List NumericEffect → ℕ → Option ℤ → Option ℤ
after_writes s d [] f now = now
after_writes s d (w ∷ ws) f now =
    after_writes s d ws f (if w.fluent == f then after_write s d w w.change now else now)

abbrev pub after_events : ℕ → State → List EventOfStep → ℕ → Option ℤ → Option ℤ
after_events scale s [] f now = now
after_events scale s (t ∷ ts) f now =
    after_events scale s ts f (after_writes s (units scale t.ticks) t.event.writes.items f now)

-- an atom after the deletes, and after the adds, of one event after another
abbrev pub after_deletes : List EventOfStep → ℕ → Bool → Bool
after_deletes [] a now = now
after_deletes (t ∷ ts) a now =
    after_deletes ts a (if has t.event.deletes.items a then false else now)

abbrev pub after_adds : List EventOfStep → ℕ → Bool → Bool
after_adds [] a now = now
after_adds (t ∷ ts) a now = after_adds ts a (if has t.event.adds.items a then true else now)
