use Rattle.std.proofs.Common.{◌≡◌, ap, ◌∙◌}
use Rattle.tp_agents.specs.Intervals.{interval_of}
use Rattle.tp_agents.proofs.Lists.{count_more}
use Rattle.tp_agents.proofs.Rows.{more_in_time, more_each}
use Rattle.tp_agents.proofs.intervals.intervals.Goals as goal

pub loop-e-preserved : goal.loop-e-preserved
loop-e-preserved c =
    let i = c.loop-e.invariant in
    let gives : c.interval-next.result ≡ interval_of c.args.horizon c.args.crosses.now c.args.least.now c.loop-e.intervals.items c.loop-e.e = c.interval-next.ensures ∙ ap (λ l. interval_of c.args.horizon c.args.crosses.now c.args.least.now l c.loop-e.e) c.deref.ensures.value in
    record {
      count = count_more c.loop-e.intervals.items c.push.new.self.items c.interval-next.result c.loop-e.e i.count c.in_ok-push.ensures.items;
      in_time = more_in_time c.args.horizon c.args.crosses.now c.args.least.now c.loop-e.intervals.items c.push.new.self.items c.loop-e.e c.interval-next.result i.count c.in_ok-push.ensures.items gives c.requires.in_time i.in_time;
      each = more_each c.args.horizon c.args.crosses.now c.args.least.now c.loop-e.intervals.items c.push.new.self.items c.loop-e.e c.interval-next.result i.count c.in_ok-push.ensures.items gives i.each;
    }
