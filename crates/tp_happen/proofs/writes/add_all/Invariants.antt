use Rattle.std.proofs.Common.{◌≡◌, ℕ, false, get_or, drop}
use Rattle.tp_task.specs.InOrder.{after_adds}
use Rattle.tp_happen.proofs.writes.add_all.Given as goal

abbrev pub invariant-loop-event : goal.invariant-loop-event
invariant-loop-event l = (a : ℕ) → after_adds (drop l.event-index l.events) a (get_or l.atoms a false) ≡ after_adds l.events a (get_or l.initial.atoms a false)
