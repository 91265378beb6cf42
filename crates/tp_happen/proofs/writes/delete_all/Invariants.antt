use Rattle.std.proofs.Common.{◌≡◌, ℕ, false, get_or, drop}
use Rattle.tp_task.specs.InOrder.{after_deletes}
use Rattle.tp_happen.proofs.writes.delete_all.Given as goal

abbrev pub invariant-loop-event : goal.invariant-loop-event
invariant-loop-event l = (a : ℕ) → after_deletes (drop l.event-index l.events) a (get_or l.atoms a false) ≡ after_deletes l.events a (get_or l.initial.atoms a false)
