-- Moments that meet all edges of a store: the potential of Dijkstra on reduced costs.
use Rattle.std.specs.Prelude.{◌≡◌, ℕ, ◌<◌, ◌^◌, List, length, All, slice_index}
use Rattle.tp_net.specs.declared.slacks.Arc.{Arc}
use Rattle.tp_net.specs.declared.spread.Link.{Link}
use Rattle.tp_net.specs.Graph.{MeetsArc, moment, arc_at}
use Rattle.tp_net.specs.Sizes.{IsSmall, IsSmallWeight}
use Rattle.tp_net.specs.Slacks.{JoinsPoints}
use Rattle.tp_repair_engine.specs.declared.store.Half.{Half}
use Rattle.tp_repair_engine.specs.declared.store.Store.{Store}
use Rattle.tp_repair_engine.specs.declared.store.Direction.{Direction}
use Rattle.tp_repair_engine.specs.Store.{arcs_of, arc_along, lists_of, keys_of, AreHalves}
use Rattle.tp_repair_engine.specs.Flow.{link_of, sum_to}

-- an edge between so many points
abbrev pub IsEdgeOf : ℕ → Arc → Type 0
IsEdgeOf points e = JoinsPoints points e × IsSmallWeight e.weight

-- an edge between the points that have these moments, which meet it
abbrev pub IsMetBy : List ℕ → Arc → Type 0
IsMetBy moments e =
    JoinsPoints (length moments) e × IsSmallWeight e.weight × MeetsArc (moment moments) e

-- the moments meet each edge; the edges stand in the lists of their points, and are few
pub record IsPotential (s : Store) (moments : List ℕ) : Type 0 where
  pub some : 0 < length moments
  pub small : All IsSmall moments
  pub arcs : All (IsMetBy moments) (arcs_of s.nodes.slots)
  pub lists : (d : Direction) → length (lists_of d s) ≡ length moments
  pub halves : (d : Direction) → AreHalves d s.nodes.slots (lists_of d s)
  pub few : (d : Direction) → sum_to (λ y. length (keys_of d s y)) (length moments) < 2 ^ 61

-- an edge in the list of a point, which the moments meet
pub record IsAlong (moments : List ℕ) (d : Direction) (point : ℕ) (h : Half) : Type 0 where
  pub far : h.far < length moments
  pub weight : IsSmallWeight h.weight
  pub met : MeetsArc (moment moments) (arc_along d point h)

-- the edge under a key as a link, with its slack at the moments
abbrev pub link_in : Direction → Store → List ℕ → ℕ → Link
link_in d s moments k = link_of d (λ x. slice_index moments x) (arc_at (arcs_of s.nodes.slots) k)
