use Rattle.std.proofs.Common.{◌≡◌, ◌++◌, ◌∷◌, [], take, map}
use Rattle.tp_net.specs.Arcs.{name_at}
use Rattle.tp_net.proofs.edges.named.Given as goal

abbrev pub invariant-loop-k : goal.invariant-loop-k
invariant-loop-k l = l.edges.items ≡ map (name_at (l.names ++ l.last ∷ [])) (take l.k-index l.cycle)
