use Rattle.std.proofs.Common.{◌≡◌, Some, sym, ◌∙◌, arith}
use Rattle.std.specs.FinMap as map
use Rattle.tp_bounds.specs.Setting.{event_count}
use Rattle.tp_exec_machine.proofs.CopyLemmas.{point_there, bounds_fit, bounds_none, bounds_more, bounds_all}
use Rattle.tp_exec_machine.proofs.copying.copy_bounds.Goals as goal

pub loop-number-init : goal.loop-number-init
loop-number-init g c = bounds_none (g.N.Net.seen c.args.net.now) c.args.setting.now c.requires.empty

pub put-requires-clause-from : goal.put-requires-clause-from
put-requires-clause-from g c =
    let s = g.N.Net.seen c.args.net.now in
    let held : map.get (g.N.Net.seen c.args.net.now).bounds c.loop-number.number ≡ Some c.in-Some.bound = sym c.bound.ensures ∙ c.in-Some.is in
    let same : event_count (g.N.Net.seen c.args.net.now) ≡ event_count c.loop-number.setting = bounds_fit s c.args.setting.now c.loop-number.setting c.loop-number.number c.loop-number.invariant c.requires.events in
    point_there s c.loop-number.setting same c.in-Some.bound.from (c.requires.lawful.in_force c.loop-number.number c.in-Some.bound held).from

pub put-requires-clause-to : goal.put-requires-clause-to
put-requires-clause-to g c =
    let s = g.N.Net.seen c.args.net.now in
    let held : map.get (g.N.Net.seen c.args.net.now).bounds c.loop-number.number ≡ Some c.in-Some.bound = sym c.bound.ensures ∙ c.in-Some.is in
    let same : event_count (g.N.Net.seen c.args.net.now) ≡ event_count c.loop-number.setting = bounds_fit s c.args.setting.now c.loop-number.setting c.loop-number.number c.loop-number.invariant c.requires.events in
    point_there s c.loop-number.setting same c.in-Some.bound.to (c.requires.lawful.in_force c.loop-number.number c.in-Some.bound held).to

pub loop-number-preserved : goal.loop-number-preserved
loop-number-preserved g c =
    rw c.in_ok-put.ensures.ok
    (bounds_more (g.N.Net.seen c.args.net.now) c.args.setting.now c.loop-number.setting c.loop-number.number c.in-Some.bound c.loop-number.invariant (sym c.bound.ensures ∙ c.in-Some.is))

pub returns : goal.returns
returns g c =
    bounds_all (g.N.Net.seen c.args.net.now) c.args.setting.now c.loop-number.setting c.loop-number.number c.loop-number.invariant (λ id le. c.requires.unused id (omega arith))
