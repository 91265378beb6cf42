use Rattle.std.proofs.Common.{◌≡◌, ℕ, ◌<◌, length}
use Rattle.tp_net.specs.Graph.{arc_at}
use Rattle.tp_net.specs.Arcs.{name_at, raised_by}
use Rattle.tp_net.proofs.edges.raised.Given as goal

abbrev pub invariant-loop-k : goal.invariant-loop-k
invariant-loop-k l = record {
  len : length l.raised.items ≡ l.k;
  each : (j : ℕ) → j < l.k → arc_at l.raised.items j ≡ raised_by l.now l.lags (name_at l.names j) (arc_at l.arcs j);
}
