use Rattle.std.proofs.Common.{◌≡◌, false}
use Rattle.tp_solve.specs.Sought.{IsSought}
use Rattle.tp_solve.proofs.seeking.bettered.Given as goal

abbrev pub invariant-rounds : goal.invariant-rounds
invariant-rounds g l =
    record {
      sought : IsSought l.aim.task.now l.aim.horizon l.best;
      quiet : l.progress ≡ false → l.board ≡ l.initial.board;
    }
