use Rattle.std.proofs.Common.{◌≡◌, ℕ, ◌<◌, ◌≤◌, None, length, take, get_or}
use Rattle.tp_agents.specs.Intervals.{interval_of, ends}
use Rattle.tp_agents.proofs.intervals.intervals.Given as goal

abbrev pub invariant-loop-e : goal.invariant-loop-e
invariant-loop-e l = record {
  count : length l.intervals.items ≡ l.e;
  in_time : (d : ℕ) → ends l.intervals.items l.least d ≤ l.horizon;
  each : (d : ℕ) → d < l.e → get_or l.intervals.items d None ≡ interval_of l.horizon l.crosses l.least (take d l.intervals.items) d;
}
