-- Where moments go back to when an edge that held them leaves.
use Rattle.std.specs.Prelude.{◌≡◌, ◌⊎◌, ℕ, ◌+◌, ◌<◌, ◌≤◌, ◌^◌, List, length, slice_index, ℤ, ◌+ℤ◌, ◌≤ℤ◌, ◌<ℤ◌}
use Rattle.std.specs.BinaryHeap.{heap_items}
use Rattle.tp_net.specs.declared.slacks.Arc.{Arc}
use Rattle.tp_net.specs.Graph.{IsSolution, moment, arc_at}
use Rattle.tp_net.specs.Links.{MeetsLink}
use Rattle.tp_net.specs.Moments.{IsStart}
use Rattle.tp_repair_engine.specs.Potential.{IsMetBy}
use Rattle.tp_repair_engine.specs.declared.flow.Work.{Work}
use Rattle.tp_repair_engine.specs.declared.store.Half.{Half}
use Rattle.tp_repair_engine.specs.declared.store.Store.{Store}
use Rattle.tp_repair_engine.specs.declared.store.Direction.{Direction}
use Rattle.tp_repair_engine.specs.declared.store.Direction.TheVariants.{Up, Down}
use Rattle.tp_repair_engine.specs.Flow.{link_of}
use Rattle.tp_repair_engine.specs.Queue.{IsQueue}
use Rattle.tp_repair_engine.specs.Store.{arc_along, half_at, halves_at, lists_of}
use Rattle.tp_repair_engine.specs.Work.{HasPlaces, IsOrder}

-- the other direction
abbrev pub turned : Direction → Direction
turned Up = Down
turned Down = Up

-- an arc that the moments met has left: they are at less than the amount from the origin, so those
-- that the others leave can be worked out from them
pub record HasLost (arcs : List Arc) (moments : List ℕ) (arc : Arc) (amount : ℕ) : Type 0 where
  pub start : IsStart arcs moments amount
  pub met : IsMetBy moments arc
  pub positive : 0 < amount
  pub fits : amount < 2 ^ 41

-- the most that a point has by the halves in its list that lead to points that are not marked, which have the amount
pub record IsBest (d : Direction) (m marks : ℕ → ℕ) (amount point : ℕ) (halves : List Half)
    (best : ℕ) : Type 0 where
  pub enough : (j : ℕ) → j < length halves → marks (half_at halves j).far ≡ 0
      → amount ≤ best + (link_of d m (arc_along d point (half_at halves j))).slack
  pub source : 0 < best → (j : ℕ) × (j < length halves) × (marks (half_at halves j).far ≡ 0)
      × (best + (link_of d m (arc_along d point (half_at halves j))).slack ≡ amount)

-- of the points below upto those that are not marked are settled with the amount, and the others wait with the most that
-- they have by them
pub record IsBeginning (d : Direction) (s : Store) (moments marks : List ℕ) (amount upto : ℕ)
    (w : Work) : Type 0 where
  pub places : HasPlaces (length moments) w
  pub order : IsOrder w.ranks.items w.order.items
  pub queue : IsQueue (length moments) (λ x. slice_index w.amounts.items x) (λ x.
      slice_index w.ranks.items x) (heap_items w.queue)
  pub settled : (y : ℕ) → y < upto → slice_index marks y ≡ 0
      → (slice_index w.amounts.items y ≡ amount) × (0 < slice_index w.ranks.items y)
  pub waits : (y : ℕ) → y < upto → 0 < slice_index marks y → (slice_index w.ranks.items y ≡ 0)
      × IsBest d (λ x. slice_index moments x) (λ x.
      slice_index marks x) amount y (halves_at (lists_of d s) y) (slice_index w.amounts.items y)
  pub later : (y : ℕ) → upto ≤ y → (slice_index w.amounts.items y ≡ 0)
      × (slice_index w.ranks.items y ≡ 0)

-- the least amounts that meet the links, where the origin and the points that are not marked have the amount
pub record IsFreed (d : Direction) (arcs : List Arc) (points : ℕ) (m marks : ℕ → ℕ) (amount : ℕ)
    (g : ℕ → ℕ) : Type 0 where
  pub origin : g 0 ≡ amount
  pub most : (x : ℕ) → g x ≤ amount
  pub closed : (k : ℕ) → k < length arcs → MeetsLink g (link_of d m (arc_at arcs k))
  pub least : (h : ℕ → ℕ) → ((k : ℕ) → k < length arcs → MeetsLink h (link_of d m (arc_at arcs k)))
      → amount ≤ h 0 → ((x : ℕ) → x < points → marks x ≡ 0 → amount ≤ h x) → (x : ℕ) → g x ≤ h x

-- what the least moments are without an arc: they meet the others; what may have been held is marked, along tight arcs
-- from where the arc begins; and no solution is below them that has unmarked points where they were
pub record IsLowered (arcs : List Arc) (low : List ℕ) (arc : Arc) (low' : List ℕ) : Type 0 where
  pub len : length low' ≡ length low
  pub solution : IsSolution arcs (moment low')
  pub marks : ℕ → ℕ
  pub begins : (arc.from ≡ 0)
      ⊎ ((moment low arc.to <ℤ (moment low arc.from +ℤ arc.weight)) ⊎ (0 < marks arc.from))
  pub follows : (k : ℕ) → k < length arcs
      → moment low (arc_at arcs k).to ≡ (moment low (arc_at arcs k).from +ℤ (arc_at arcs k).weight)
      → 0 < marks (arc_at arcs k).to → 0 < marks (arc_at arcs k).from
  pub least : (t : ℕ → ℤ) → IsSolution arcs t → ((x : ℕ) → x < length low → marks x ≡ 0
      → moment low x ≤ℤ t x) → (x : ℕ) → x < length low → moment low' x ≤ℤ t x

-- the same for the greatest moments, along tight arcs from where the arc ends
pub record IsHeightened (arcs : List Arc) (high : List ℕ) (arc : Arc)
    (high' : List ℕ) : Type 0 where
  pub len : length high' ≡ length high
  pub solution : IsSolution arcs (moment high')
  pub marks : ℕ → ℕ
  pub ends : (arc.to ≡ 0)
      ⊎ ((moment high arc.to <ℤ (moment high arc.from +ℤ arc.weight)) ⊎ (0 < marks arc.to))
  pub follows : (k : ℕ) → k < length arcs → moment high (arc_at arcs k).to
      ≡ (moment high (arc_at arcs k).from +ℤ (arc_at arcs k).weight)
      → 0 < marks (arc_at arcs k).from → 0 < marks (arc_at arcs k).to
  pub greatest : (t : ℕ → ℤ) → IsSolution arcs t → ((x : ℕ) → x < length high → marks x ≡ 0
      → t x ≤ℤ moment high x) → (x : ℕ) → x < length high → t x ≤ℤ moment high' x
