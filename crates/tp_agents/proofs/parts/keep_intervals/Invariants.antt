-- Those so far and those of the events that are left are those of all.
use Rattle.std.proofs.Common.{◌≡◌, ◌≤◌, ◌++◌, drop}
use Rattle.tp_agents.specs.Owners.{events_from, events_of}
use Rattle.tp_agents.specs.Parts.{keeps_intervals}
use Rattle.tp_agents.proofs.parts.keep_intervals.Given as goal

abbrev pub invariant-loop-e : goal.invariant-loop-e
invariant-loop-e l = record {
  within : l.place ≤ l.e;
  whole :
      l.bounds.items ++ keeps_intervals l.split.intervals.items l.place (events_from l.e (drop l.e l.split.owners.items) l.agent)
      ≡ l.fn.bounds.items ++ keeps_intervals l.split.intervals.items 0 (events_of l.split.owners.items l.agent);
}
