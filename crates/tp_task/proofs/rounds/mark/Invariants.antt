-- The atoms that are left, marked over what is there now, give what all of them give.
use Rattle.std.proofs.Common.{◌≡◌, drop}
use Rattle.tp_task.specs.Rounds.{marked}
use Rattle.tp_task.proofs.rounds.mark.Given as goal

abbrev pub invariant-loop-a : goal.invariant-loop-a
invariant-loop-a l = marked l.reach (drop l.a-index l.atoms) ≡ marked l.initial.reach l.atoms
