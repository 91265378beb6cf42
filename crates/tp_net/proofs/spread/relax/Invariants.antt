use Rattle.tp_net.proofs.Spreads.{IsRelaxing}
use Rattle.tp_net.proofs.spread.relax.Given as goal

abbrev pub invariant-loop-index : goal.invariant-loop-index
invariant-loop-index l = IsRelaxing l.links l.point l.index l.fn.amounts l.ranks l.fn.parents l.amounts l.parents
