use Rattle.std.proofs.Common.{◌<◌, arith, ap}
use Rattle.tp_bounds.specs.Setting.{event_count}
use Rattle.tp_bounds.proofs.Windows.{window_from_ends}
use Rattle.tp_exec_machine.specs.Machine.{Machine}
use Rattle.tp_exec_machine.proofs.Steps.{window_step, window_exact}
use Rattle.tp_exec_machine.proofs.executive.Executive.window.Goals as goal

pub returns-clause-step : goal.returns-clause-step
returns-clause-step g c =
    let s = g.N.Net.seen c.self.inside.net in
    let lt : c.args.e < event_count (g.N.Net.seen c.self.inside.net) = omega (arith, c.events.ensures.count) in
    window_step c.args.self.now s c.args.e c.low.result c.high.result (ap (λ (m : Machine). m.setting) c.self.view_is) lt
    (window_from_ends s c.args.e c.low.result c.high.result c.low.ensures c.high.ensures)
    c.events.ensures.possible

pub returns-clause-exact : goal.returns-clause-exact
returns-clause-exact g c =
    let s = g.N.Net.seen c.self.inside.net in
    window_exact s c.args.self.now.setting c.args.e c.low.result c.high.result (ap (λ (m : Machine). m.setting) c.self.view_is)
    (window_from_ends s c.args.e c.low.result c.high.result c.low.ensures c.high.ensures)
