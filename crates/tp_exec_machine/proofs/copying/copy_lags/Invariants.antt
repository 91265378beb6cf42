use Rattle.tp_exec_machine.specs.Copies.{HasLagsBelow}
use Rattle.tp_exec_machine.proofs.copying.copy_lags.Given as goal

abbrev pub invariant-loop-e : goal.invariant-loop-e
invariant-loop-e g l = HasLagsBelow (g.N.Net.seen l.net) l.fn.setting l.setting l.e
