-- The room in which a flow is worked out.
use Rattle.std.specs.Prelude.{◌≡◌, ◌≢◌, ℕ, ◌+◌, ◌-◌, ◌<◌, ◌≤◌, ◌^◌, pos, List, [], ◌∷◌, ◌++◌, length, All, slice_index, Option, Some, None}
use Rattle.std.specs.declared.alloc.Global.{Global}
use Rattle.std.specs.declared.vec.Vec.{Vec}
use Rattle.tp_net.specs.declared.slacks.Arc.{Arc}
use Rattle.tp_net.specs.declared.spread.Link.{Link}
use Rattle.tp_net.specs.Links.{MeetsLink}
use Rattle.tp_net.specs.Graph.{IsLeast, IsGreatest, IsSolution}
use Rattle.tp_repair_engine.specs.declared.store.Store.{Store}
use Rattle.tp_repair_engine.specs.declared.store.Direction.TheVariants.{Up, Down}
use Rattle.tp_repair_engine.specs.Store.{keys_of, HasNode}
use Rattle.tp_repair_engine.specs.declared.store.Node.{Node}
use Rattle.tp_net.specs.Moments.{CycleBeginsWith}
use Rattle.std.specs.BinaryHeap.{heap_items, IsHeap}
use Rattle.tp_repair_engine.specs.declared.flow.Work.{Work}
use Rattle.tp_repair_engine.specs.Flow.{looks_at, sum_to}
use Rattle.tp_repair_engine.specs.Queue.{IsQueue, by_amount}

-- it has a place for each point
pub record HasPlaces (points : ℕ) (w : Work) : Type 0 where
  pub amounts : length w.amounts.items ≡ points
  pub ranks : length w.ranks.items ≡ points
  pub parents : length w.parents.items ≡ points

-- no point is settled, and those that have something wait
pub record IsReady (points : ℕ) (w : Work) : Type 0 where
  pub places : HasPlaces points w
  pub unsettled : (x : ℕ) → slice_index w.ranks.items x ≡ 0
  pub order : length w.order.items ≡ 0
  pub queue : IsQueue points (λ x. slice_index w.amounts.items x) (λ x.
      slice_index w.ranks.items x) (heap_items w.queue)

-- the points that were settled, in this order
pub record IsOrder (ranks order : List ℕ) : Type 0 where
  pub above : (x : ℕ) → slice_index ranks x ≤ length order
  pub each : (x : ℕ) → 0 < slice_index ranks x → slice_index order (slice_index ranks x - 1) ≡ x
  pub once : (k : ℕ) → k < length order → (slice_index order k < length ranks)
      × (slice_index ranks (slice_index order k) ≡ k + 1)

-- some points are settled, each of whose links is met, and those that have something wait
pub record IsBegun (link : ℕ → Link) (keys : ℕ → List ℕ) (points : ℕ) (w : Work) : Type 0 where
  pub places : HasPlaces points w
  pub order : IsOrder w.ranks.items w.order.items
  pub queue : IsQueue points (λ x. slice_index w.amounts.items x) (λ x.
      slice_index w.ranks.items x) (heap_items w.queue)
  pub first : (x y : ℕ) → 0 < slice_index w.ranks.items x → slice_index w.ranks.items y ≡ 0
      → slice_index w.amounts.items y ≤ slice_index w.amounts.items x
  pub positive : (x : ℕ) → 0 < slice_index w.ranks.items x → 0 < slice_index w.amounts.items x
  pub closed : (y j : ℕ) → 0 < slice_index w.ranks.items y → j < length (keys y)
      → MeetsLink (λ x. slice_index w.amounts.items x) (link (slice_index (keys y) j))

-- nothing is being worked out
pub record IsClear (points : ℕ) (w : Work) : Type 0 where
  pub places : HasPlaces points w
  pub nothing : (x : ℕ) → slice_index w.amounts.items x ≡ 0
  pub unsettled : (x : ℕ) → slice_index w.ranks.items x ≡ 0
  pub order : length w.order.items ≡ 0
  pub queue : heap_items w.queue ≡ []
  pub heap : IsHeap by_amount (heap_items w.queue)

-- a point is neither settled nor has it something
pub record IsOpenAt (points point : ℕ) (w : Work) : Type 0 where
  pub places : HasPlaces points w
  pub order : IsOrder w.ranks.items w.order.items
  pub queue : IsQueue points (λ x. slice_index w.amounts.items x) (λ x.
      slice_index w.ranks.items x) (heap_items w.queue)
  pub within : point < points
  pub nothing : slice_index w.amounts.items point ≡ 0
  pub unsettled : slice_index w.ranks.items point ≡ 0

-- one point has something, and the others nothing
pub record IsSetOut (points seed amount : ℕ) (w : Work) : Type 0 where
  pub ready : IsReady points w
  pub here : slice_index w.amounts.items seed ≡ amount
  pub there : (x : ℕ) → x ≢ seed → slice_index w.amounts.items x ≡ 0

-- what was worked out is in the order of the points that were settled, and nowhere else
pub record IsIdle (points : ℕ) (w : Work) : Type 0 where
  pub places : HasPlaces points w
  pub order : IsOrder w.ranks.items w.order.items
  pub ended : (x : ℕ) → slice_index w.ranks.items x ≡ 0 → slice_index w.amounts.items x ≡ 0

-- with a new arc the least moments are greater by these amounts
pub record Rises (arcs : List Arc) (new : Arc) (low amounts : List ℕ) : Type 0 where
  pub solution : IsSolution (arcs ++ new ∷ []) (λ x.
      pos (slice_index low x + slice_index amounts x))
  pub least : (moved : List ℕ) → length moved ≡ length low
      → ((x : ℕ) → x < length low → slice_index moved x ≡ slice_index low x + slice_index amounts x)
      → IsLeast (arcs ++ new ∷ []) moved
  pub fits : (x : ℕ) → x < length low → slice_index low x + slice_index amounts x < 2 ^ 64

-- with a new arc the greatest moments are less by these amounts
pub record Falls (arcs : List Arc) (new : Arc) (high amounts : List ℕ) : Type 0 where
  pub greatest : (moved : List ℕ) → length moved ≡ length high → ((x : ℕ) → x < length high
      → slice_index moved x ≡ slice_index high x - slice_index amounts x)
      → IsGreatest (arcs ++ new ∷ []) moved
  pub within : (x : ℕ) → x < length high → slice_index amounts x ≤ slice_index high x

-- by how much the least moments rise, where the new arc can be met; else a negative cycle that begins with it
abbrev pub WouldRise : List Arc → Arc → List ℕ → List ℕ → Option (Vec ℕ Global) → Type 0
WouldRise arcs new low amounts None = Rises arcs new low amounts
WouldRise arcs new low amounts (Some path) =
    CycleBeginsWith (arcs ++ new ∷ []) (length arcs) (length arcs ∷ path.items)

abbrev pub IsTightened : List Arc → Arc → List ℕ → List ℕ → List ℕ → List ℕ → Option (Vec ℕ Global)
    → Type 0
IsTightened arcs new low high up down None = Rises arcs new low up × Falls arcs new high down
IsTightened arcs new low high up down (Some path) =
    CycleBeginsWith (arcs ++ new ∷ []) (length arcs) (length arcs ∷ path.items)

-- the new arc was looked at, and each arc in the list of a point that has something, once; where it can't be met, no arc
-- twice
abbrev pub IsCounted : (ℕ → List ℕ) → ℕ → List ℕ → ℕ → ℕ → Option (Vec ℕ Global) → Type 0
IsCounted keys points amounts before after None =
    after ≡ before + (1 + looks_at keys (λ x. slice_index amounts x) points)
IsCounted keys points amounts before after (Some path) =
    (before < after) × (after ≤ before + (1 + sum_to (λ y. length (keys y)) points))

-- the edges on the way back are there
abbrev pub AreThere : List (Option Node) → Option (Vec ℕ Global) → Type 0
AreThere slots None = Unit {0}
AreThere slots (Some path) = All (HasNode slots) path.items

-- each point but one that has something has it by an edge that is there
abbrev pub HaveParents : List (Option Node) → ℕ → Work → Type 0
HaveParents slots seed w =
    (x : ℕ) → x ≢ seed → 0 < slice_index w.amounts.items x
    → HasNode slots (slice_index w.parents.items x)

-- the same in both directions
abbrev pub AreCounted : Store → ℕ → List ℕ → List ℕ → ℕ → ℕ → Option (Vec ℕ Global) → Type 0
AreCounted s points up down before after None =
    after ≡ before + ((1 + looks_at (keys_of Up s) (λ x. slice_index up x) points)
    + (1 + looks_at (keys_of Down s) (λ x. slice_index down x) points))
AreCounted s points up down before after (Some path) =
    (before < after) × (after ≤ before + (1 + sum_to (λ y. length (keys_of Up s y)) points))
