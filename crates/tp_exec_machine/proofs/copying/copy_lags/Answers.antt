use Rattle.std.proofs.Common.{arith}
use Rattle.tp_exec_machine.proofs.CopyLemmas.{lags_none, lags_all}
use Rattle.tp_exec_machine.proofs.copying.copy_lags.Goals as goal

pub loop-e-init : goal.loop-e-init
loop-e-init g c = lags_none (g.N.Net.seen c.args.net.now) c.args.setting.now c.requires.room

pub returns : goal.returns
returns g c =
    lags_all (g.N.Net.seen c.args.net.now) c.args.setting.now c.loop-e.setting c.loop-e.e c.loop-e.invariant (omega (arith, c.events-e-end.ensures.count, c.requires.lawful.lags))
