-- The actions that are left, on what is there now, give what all of them give.
use Rattle.std.proofs.Common.{◌≡◌, drop}
use Rattle.tp_task.specs.Rounds.{after_round}
use Rattle.tp_task.proofs.rounds.round.Given as goal

abbrev pub invariant-loop-body : goal.invariant-loop-body
invariant-loop-body l = after_round l.reach (drop l.body-index l.actions) ≡ after_round l.initial.reach l.actions
