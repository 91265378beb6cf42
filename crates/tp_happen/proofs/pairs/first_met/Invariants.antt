use Rattle.std.proofs.Common.{◌≡◌, drop}
use Rattle.std.specs.List.{position_from}
use Rattle.tp_task.specs.Event.{interferes}
use Rattle.tp_task.specs.Happens.{EventOfStep}
use Rattle.tp_happen.proofs.pairs.first_met.Given as goal

abbrev pub invariant-loop-j : goal.invariant-loop-j
invariant-loop-j l = position_from (λ (u : EventOfStep). interferes l.event.event u.event) l.j (drop l.j l.events) ≡ position_from (λ (u : EventOfStep). interferes l.event.event u.event) l.from (drop l.from l.events)
