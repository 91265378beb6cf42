-- The events so far, and those of the steps that are left, are all.
use Rattle.std.proofs.Common.{◌≡◌, ◌≤◌, ◌*◌, ◌++◌, drop}
use Rattle.tp_task.specs.Valid.{events, events_from}
use Rattle.tp_validate.proofs.placing.placed_events.Given as goal

abbrev pub invariant-loop-step : goal.invariant-loop-step
invariant-loop-step l =
    record {
      events : l.events.items ++ events_from l.next (drop l.step-index l.steps) ≡ events l.steps;
      few : l.next ≤ 2 * l.step-index;
    }
