use Rattle.std.proofs.Common.{◌≤◌, length}
use Rattle.tp_repair_engine.specs.Flow.{sum_to}
use Rattle.tp_repair_engine.specs.Store.{keys_of}
use Rattle.tp_repair_engine.specs.Loosened.{IsBeginning}
use Rattle.tp_repair_engine.proofs.loosen.begin.Given as goal

abbrev pub invariant-loop-point : goal.invariant-loop-point
invariant-loop-point l = record {
  beginning : IsBeginning l.direction l.marked.potential.store.now l.marked.potential.moments.now l.marked.marks.now l.marked.amount l.point l.work;
  looks : l.looks ≤ sum_to (λ y. length (keys_of l.direction l.marked.potential.store.now y)) l.point;
}
