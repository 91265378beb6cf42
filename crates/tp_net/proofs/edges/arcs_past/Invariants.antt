use Rattle.std.proofs.Common.{◌≡◌, ℕ, ◌<◌, length}
use Rattle.tp_net.specs.Graph.{arc_at}
use Rattle.tp_net.specs.Arcs.{name_at, past_arc}
use Rattle.tp_net.proofs.edges.arcs_past.Given as goal

abbrev pub invariant-loop-k : goal.invariant-loop-k
invariant-loop-k l = record {
  len : length l.past.items ≡ l.k;
  each : (j : ℕ) → j < l.k → arc_at l.past.items j ≡ past_arc l.e l.moment (name_at l.names j) (arc_at l.arcs j);
}
