use Rattle.std.proofs.Common.{◌≡◌, not, drop}
use Rattle.std.specs.List.{list_all, position_from}
use Rattle.tp_task.specs.State.{holds}
use Rattle.tp_task.specs.Happens.{EventOfStep}
use Rattle.tp_happen.specs.Stored.{state_of}
use Rattle.tp_happen.specs.Terms.{condition_small}
use Rattle.tp_happen.proofs.faults.first_unmet.Given as goal

abbrev pub invariant-loop-i : goal.invariant-loop-i
invariant-loop-i l =
    record {
      first : position_from (λ (t : EventOfStep). not (holds (state_of l.state) t.event.condition)) l.i (drop l.i l.events) ≡ position_from (λ (t : EventOfStep). not (holds (state_of l.state) t.event.condition)) 0 l.events;
      small : list_all (condition_small (state_of l.state)) (drop l.i l.events) ≡ list_all (condition_small (state_of l.state)) l.events;
    }
