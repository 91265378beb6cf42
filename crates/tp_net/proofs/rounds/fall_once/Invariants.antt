use Rattle.tp_net.proofs.Settling.{IsFalling}
use Rattle.tp_net.proofs.rounds.fall_once.Given as goal

abbrev pub invariant-loop-arc : goal.invariant-loop-arc
invariant-loop-arc l = IsFalling l.arcs l.fn.high l.high l.arc-index l.fell
