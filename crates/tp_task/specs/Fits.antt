-- What an event changes is among the atoms and fluents that there are.
use Rattle.std.specs.Prelude.{ℕ, Bool, ◌&&◌, nat_lt}
use Rattle.std.specs.List.{list_all}
use Rattle.tp_task.specs.declared.events.GroundEvent.{GroundEvent}
use Rattle.tp_task.specs.declared.events.Body.{Body}
use Rattle.tp_task.specs.declared.events.Body.TheVariants.{Instant, Durative}

-- of so many atoms and so many fluents
abbrev pub event_fits : ℕ → ℕ → GroundEvent → Bool
event_fits atoms fluents e =
    list_all (λ a. nat_lt a atoms) e.adds.items
    && (list_all (λ a. nat_lt a atoms) e.deletes.items
    && list_all (λ w. nat_lt w.fluent fluents) e.writes.items)

abbrev pub body_fits : ℕ → ℕ → Body → Bool
body_fits atoms fluents (Instant e) = event_fits atoms fluents e
body_fits atoms fluents (Durative start end invariant) =
    event_fits atoms fluents start && event_fits atoms fluents end
