use Rattle.std.proofs.Common.{◌≡◌, ◌-◌, length, Bool}
use Rattle.std.specs.List.{count_by}
use Rattle.tp_task.specs.Adding.{Adds}
use Rattle.tp_task.specs.Rounds.{acts_of_bodies}
use Rattle.tp_task.proofs.rounds.settle.Given as goal

abbrev pub invariant-loop-many : goal.invariant-loop-many
invariant-loop-many l = record {
  adds : Adds (acts_of_bodies l.actions) l.initial.reach l.reach;
  many : l.many ≡ count_by (λ (b : Bool). b) l.reach;
}

abbrev pub decreases-loop-many : goal.decreases-loop-many
decreases-loop-many l = length l.initial.reach - l.many
