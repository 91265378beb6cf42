use Rattle.std.proofs.Common.{arith}
use Rattle.tp_exec_machine.proofs.Least.{least_more}
use Rattle.tp_agents.proofs.Lists.{listed_more, count_more}
use Rattle.tp_agents.proofs.OnSettings.{least_listed}
use Rattle.tp_agents.proofs.gathering.lows.Goals as goal

pub loop-e-preserved : goal.loop-e-preserved
loop-e-preserved g c =
    let i = c.loop-e.invariant in
    let m = least_more (g.N.Net.seen c.args.net.now) c.loop-e.e c.low.result i.0 i.1 c.low.ensures in (
      m.0,
      m.1,
      count_more c.loop-e.least.items c.push.new.self.items c.low.result c.loop-e.e i.2 c.in_ok-push.ensures.items,
      listed_more c.loop-e.least.items c.push.new.self.items i.0 m.0 c.loop-e.e c.low.result i.2 c.in_ok-push.ensures.items i.3 m.2 m.3,
    )

pub returns : goal.returns
returns g c =
    let i = c.loop-e.invariant in
    least_listed (g.N.Net.seen c.args.net.now) c.loop-e.least.items i.0 c.loop-e.e c.events-e-end.ensures.lawful i.1 i.2 i.3
    (omega (arith, c.events-e-end.ensures.count)) (omega (arith, c.events-e-end.ensures.count))
