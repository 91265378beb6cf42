use Rattle.std.proofs.Common.{◌≡◌, ℕ, ◌<◌, length, get_or}
use Rattle.tp_agents.specs.Owners.{place_of}
use Rattle.tp_agents.proofs.parts.places.Given as goal

abbrev pub invariant-loop-e : goal.invariant-loop-e
invariant-loop-e l = record {
  count : length l.places.items ≡ l.e;
  each : (d : ℕ) → d < l.e → get_or l.places.items d 0 ≡ place_of l.owners d;
}
