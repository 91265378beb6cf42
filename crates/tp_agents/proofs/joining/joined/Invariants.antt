use Rattle.std.proofs.Common.{◌≡◌, ℕ, ◌<◌, length, slice_get}
use Rattle.tp_agents.specs.Owners.{owner_of}
use Rattle.tp_agents.specs.Joined.{told_at}
use Rattle.tp_agents.proofs.joining.joined.Given as goal

abbrev pub invariant-loop-e : goal.invariant-loop-e
invariant-loop-e l = record {
  count : length l.moments.items ≡ l.e;
  each : (d : ℕ) → d < l.e → slice_get l.moments.items d ≡ told_at l.owners (slice_get l.reports (owner_of l.owners d)) d;
}
