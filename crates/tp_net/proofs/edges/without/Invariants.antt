use Rattle.tp_bounds.specs.Setting.{Setting}
use Rattle.tp_bounds.specs.Changes.{without_bound}
use Rattle.tp_net.specs.Arcs.{ListsArcs, AreArcs}
use Rattle.tp_net.proofs.Removals.{IsAmong}
use Rattle.tp_net.proofs.edges.without.Given as goal

abbrev pub invariant-loop-k : goal.invariant-loop-k
invariant-loop-k l = (s : Setting) → AreArcs s l.names l.arcs → ListsArcs (IsAmong l.names l.k) (without_bound s l.id.0) l.left_names.items l.left_arcs.items
