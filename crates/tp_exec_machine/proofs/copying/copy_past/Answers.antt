use Rattle.std.proofs.Common.{arith}
use Rattle.tp_exec_machine.proofs.CopyLemmas.{past_all}
use Rattle.tp_exec_machine.proofs.copying.copy_past.Goals as goal

pub returns : goal.returns
returns g c =
    past_all (g.N.Net.seen c.args.net.now) c.args.setting.now c.loop-e.setting c.loop-e.e c.loop-e.invariant (omega (arith, c.events-e-end.ensures.count))
