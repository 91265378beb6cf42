use Rattle.std.proofs.Common.{◌≡◌, take}
use Rattle.tp_happen.proofs.footprints.footprints_of.Given as goal

abbrev pub invariant-loop-event : goal.invariant-loop-event
invariant-loop-event l = l.footprints.items ≡ take l.event-index l.events
