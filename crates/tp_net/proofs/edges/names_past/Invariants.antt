use Rattle.std.proofs.Common.{◌≡◌, ℕ, ◌<◌, length}
use Rattle.tp_net.specs.Arcs.{name_at, past_name}
use Rattle.tp_net.proofs.edges.names_past.Given as goal

abbrev pub invariant-loop-name : goal.invariant-loop-name
invariant-loop-name l = record {
  len : length l.past.items ≡ l.name-index;
  each : (j : ℕ) → j < l.name-index → name_at l.past.items j ≡ past_name l.e (name_at l.names j);
}
