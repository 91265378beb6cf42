-- What the bounds so far and those that are left ask is what all ask.
use Rattle.std.proofs.Common.{◌≡◌, ◌≤◌, min, drop}
use Rattle.tp_agents.specs.Intervals.{high_of, begins}
use Rattle.tp_agents.proofs.intervals.high_end.Given as goal

abbrev pub invariant-loop-bound : goal.invariant-loop-bound
invariant-loop-bound l = record {
  within : l.high ≤ l.horizon;
  whole : min l.high (high_of l.horizon (drop l.bound-index l.crosses) (begins l.before l.least) l.e) ≡ high_of l.horizon l.crosses (begins l.before l.least) l.e;
}
