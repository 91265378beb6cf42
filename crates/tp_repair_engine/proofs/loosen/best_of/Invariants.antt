use Rattle.std.proofs.Common.{◌≡◌, get_or}
use Rattle.tp_repair_engine.proofs.Frees.{IsBestUpto}
use Rattle.tp_repair_engine.proofs.loosen.best_of.Given as goal

abbrev pub invariant-loop-half : goal.invariant-loop-half
invariant-loop-half l = record {
  looks : l.looks ≡ l.half-index;
  best : IsBestUpto l.direction (λ x. get_or l.marked.potential.moments.now x 0) (λ x. get_or l.marked.marks.now x 0) l.marked.amount l.point l.list l.half-index l.best;
}
