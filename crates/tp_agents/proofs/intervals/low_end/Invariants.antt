-- What the bounds so far and those that are left ask is what all ask.
use Rattle.std.proofs.Common.{◌≡◌, max, drop}
use Rattle.tp_agents.specs.Intervals.{low_of, ends}
use Rattle.tp_agents.proofs.intervals.low_end.Given as goal

abbrev pub invariant-loop-bound : goal.invariant-loop-bound
invariant-loop-bound l = max l.low (low_of (drop l.bound-index l.crosses) (ends l.before l.least) l.e) ≡ low_of l.crosses (ends l.before l.least) l.e
