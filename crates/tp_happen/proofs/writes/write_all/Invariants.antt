-- The events that are left, on what is there now, give what all of them give.
use Rattle.std.proofs.Common.{◌≡◌, ℕ, None, get_or, drop}
use Rattle.std.specs.List.{list_all}
use Rattle.tp_task.specs.InOrder.{after_events}
use Rattle.tp_happen.specs.Bounded.{effects_small, all_sums_small}
use Rattle.tp_happen.specs.Stored.{state_of}
use Rattle.tp_happen.proofs.writes.write_all.Given as goal

abbrev pub invariant-loop-event : goal.invariant-loop-event
invariant-loop-event l =
    record {
      numbers : (f : ℕ) → after_events l.state.scale (state_of l.state) (drop l.event-index l.events) f (get_or l.numbers f None) ≡ after_events l.state.scale (state_of l.state) l.events f (get_or l.initial.numbers f None);
      expressions : list_all (effects_small l.state.scale (state_of l.state)) (drop l.event-index l.events) ≡ list_all (effects_small l.state.scale (state_of l.state)) l.events;
      sums : (f : ℕ) → all_sums_small l.state.scale (state_of l.state) (drop l.event-index l.events) f (get_or l.numbers f None) ≡ all_sums_small l.state.scale (state_of l.state) l.events f (get_or l.initial.numbers f None);
    }
