use Rattle.std.proofs.Common.{arith}
use Rattle.tp_bounds.specs.Setting.{IsInRange}
use Rattle.tp_agents.specs.declared.crosses.CrossBound.{CrossBound}
use Rattle.tp_agents.specs.Intervals.{begins, ends}
use Rattle.tp_agents.proofs.Ends.{low_small, high_in_time}
use Rattle.tp_agents.proofs.Lists.{all_each}
use Rattle.tp_agents.proofs.intervals.interval.Goals as goal

pub overflow_cast-result : goal.overflow_cast-result
overflow_cast-result c =
    let small = low_small (ends c.args.before.now c.args.least.now) c.args.e c.args.crosses.now (all_each (λ (b : CrossBound). IsInRange b.w) c.args.crosses.now c.requires.weights) c.requires.ends in
    record { fits = omega (arith, c.low_end-low.ensures, small) }

pub overflow_cast-result-2 : goal.overflow_cast-result-2
overflow_cast-result-2 c =
    let within = high_in_time c.args.horizon (begins c.args.before.now c.args.least.now) c.args.e c.args.crosses.now in
    record { fits = omega (arith, c.high_end-high.ensures, within, c.ranges.horizon.fits) }
