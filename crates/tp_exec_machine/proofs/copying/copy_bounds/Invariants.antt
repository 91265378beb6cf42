use Rattle.tp_exec_machine.specs.Copies.{HasBoundsBelow}
use Rattle.tp_exec_machine.proofs.copying.copy_bounds.Given as goal

abbrev pub invariant-loop-number : goal.invariant-loop-number
invariant-loop-number g l = HasBoundsBelow (g.N.Net.seen l.net) l.fn.setting l.setting l.number
