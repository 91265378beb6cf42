use Rattle.tp_repair_engine.specs.Asked.{AsksUpto, AreOffered}
use Rattle.tp_repair_engine.proofs.rising.set_out_floors.Given as goal

abbrev pub invariant-loop-e : goal.invariant-loop-e
invariant-loop-e l = AreOffered (AsksUpto l.e l.fixed l.lags l.now) l.low l.work
