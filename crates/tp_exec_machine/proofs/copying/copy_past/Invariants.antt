use Rattle.tp_exec_machine.specs.Copies.{HasPastBelow}
use Rattle.tp_exec_machine.proofs.copying.copy_past.Given as goal

abbrev pub invariant-loop-e : goal.invariant-loop-e
invariant-loop-e g l = HasPastBelow (g.N.Net.seen l.net) l.fn.setting l.setting l.e
