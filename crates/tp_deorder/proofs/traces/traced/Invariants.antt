use Rattle.std.proofs.Common.{◌≡◌, take}
use Rattle.tp_deorder.proofs.traces.traced.Given as goal

abbrev pub invariant-loop-event : goal.invariant-loop-event
invariant-loop-event l = l.found.items ≡ take l.event-index l.events
