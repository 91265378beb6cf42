use Rattle.tp_net.specs.Arcs.{ListsArcs}
use Rattle.tp_net.specs.NewNet.{new_setting}
use Rattle.tp_net.proofs.NewNet.{IsBelow}
use Rattle.tp_net.proofs.edges.star.Given as goal

abbrev pub invariant-loop-e : goal.invariant-loop-e
invariant-loop-e l = ListsArcs (IsBelow l.e) (new_setting l.events l.horizon) l.names.items l.arcs.items
