use Rattle.std.proofs.Common.{◌≡◌, drop}
use Rattle.std.specs.List.{position_from}
use Rattle.tp_task.specs.Event.{mixes}
use Rattle.tp_task.specs.Happens.{EventOfStep}
use Rattle.tp_happen.proofs.clashes.first_clash.Given as goal

abbrev pub invariant-loop-i : goal.invariant-loop-i
invariant-loop-i l = position_from (λ (t : EventOfStep). mixes t.event) l.i (drop l.i l.events) ≡ position_from (λ (t : EventOfStep). mixes t.event) 0 l.events
