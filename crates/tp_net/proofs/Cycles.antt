-- The numbers on a chain are numbers of arcs.
use Rattle.std.proofs.Common.{ℕ, ◌<◌, List, [], ◌∷◌, length}
use Rattle.std.specs.Prelude.{All}
use Rattle.std.proofs.lemmas.List.Elements.{All-nil, All-cons}
use Rattle.tp_net.specs.declared.slacks.Arc.{Arc}
use Rattle.tp_net.specs.Graph.{IsChain, arc_at}

pub chain_names : (arcs : List Arc) (a b : ℕ) (ks : List ℕ) → IsChain arcs a b ks → All (λ k. k < length arcs) ks
chain_names arcs a b [] chain = All-nil (λ k. k < length arcs)
chain_names arcs a b (k ∷ ks) chain = All-cons (λ k. k < length arcs) k ks chain.0 (chain_names arcs (arc_at arcs k).to b ks chain.2)
