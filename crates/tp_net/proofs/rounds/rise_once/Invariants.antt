use Rattle.tp_net.proofs.Settling.{IsRising}
use Rattle.tp_net.proofs.rounds.rise_once.Given as goal

abbrev pub invariant-loop-arc : goal.invariant-loop-arc
invariant-loop-arc l = IsRising l.arcs l.fn.low l.low l.arc-index l.rose
