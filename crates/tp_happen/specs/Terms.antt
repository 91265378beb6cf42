-- Parts of an event's expressions, in the order in which the code looks at them.
use Rattle.std.specs.Prelude.{ℕ, Bool, ◌&&◌}
use Rattle.std.specs.List.{list_all}
use Rattle.tp_task.specs.State.{State, units}
use Rattle.tp_task.specs.Happens.{EventOfStep}
use Rattle.tp_happen.specs.Small.{values_small, all_small}
use Rattle.tp_happen.specs.Bounded.{constraint_small}

-- its right sides and its duration constraint
abbrev pub terms_small : ℕ → State → EventOfStep → Bool
terms_small scale s t =
    list_all (λ w. values_small s (units scale t.ticks) w.value) t.event.writes.items
    && constraint_small s t

-- its condition
abbrev pub condition_small : State → EventOfStep → Bool
condition_small s t = all_small s t.event.condition
