-- What is found so far, and what happens at the rest, is what happens at all.
use Rattle.std.proofs.Common.{◌≡◌, ◌++◌, drop, map}
use Rattle.tp_task.specs.Valid.{Placed}
use Rattle.tp_validate.proofs.placing.event_refs.Given as goal

abbrev pub invariant-loop-event : goal.invariant-loop-event
invariant-loop-event l = l.refs.items ++ map (λ (e : Placed). e.timed) (drop l.event-index l.events) ≡ map (λ (e : Placed). e.timed) l.events
