-- The least and the greatest moments of the points of a distance graph (Dechter, Meiri and Pearl 1991, corollary 3.2), and
-- what one more arc does to them.
use Rattle.std.specs.Prelude.{◌≡◌, ℕ, ◌<◌, List, [], ◌∷◌, ◌++◌, length, All, slice_index, pos, ◌+ℤ◌, ◌-ℤ◌, ◌≤ℤ◌, ◌<ℤ◌}
use Rattle.tp_net.specs.declared.slacks.Arc.{Arc}
use Rattle.tp_net.specs.declared.moments.Raised.{Raised}
use Rattle.tp_net.specs.declared.moments.Raised.TheVariants.{Consistent, NegativeCycle}
use Rattle.tp_net.specs.declared.moments.Added.{Added}
use Rattle.tp_net.specs.declared.moments.Added.TheVariants.{Both, Refused}
use Rattle.tp_net.specs.Graph.{IsLeast, IsGreatest, IsNegativeCycle, IsSolution, arc_at, moment}
use Rattle.tp_net.specs.Sizes.{IsSmall, IsSmallWeight}
use Rattle.tp_net.specs.Slacks.{JoinsPoints}

-- a negative cycle that begins with the arc of this number
pub record CycleBeginsWith (arcs : List Arc) (first : ℕ) (cycle : List ℕ) : Type 0 where
  pub negative : IsNegativeCycle arcs cycle
  pub rest : List ℕ
  pub first_is : cycle ≡ first ∷ rest

-- the least moments with a new arc, or a negative cycle that begins with it
abbrev pub IsRaised : List Arc → Arc → ℕ → Raised → Type 0
IsRaised arcs new points (Consistent low) =
    (length low.items ≡ points) × IsLeast (arcs ++ new ∷ []) low.items
IsRaised arcs new points (NegativeCycle cycle) =
    CycleBeginsWith (arcs ++ new ∷ []) (length arcs) cycle.items

-- the least and the greatest moments, for each point
pub record AreExact (arcs : List Arc) (low high : List ℕ) : Type 0 where
  pub len : length low ≡ length high
  pub least : IsLeast arcs low
  pub greatest : IsGreatest arcs high

-- the windows with a new arc, or a negative cycle that begins with it
abbrev pub IsAdded : List Arc → Arc → ℕ → Added → Type 0
IsAdded arcs new points (Both low high) =
    (length low.items ≡ points) × AreExact (arcs ++ new ∷ []) low.items high.items
IsAdded arcs new points (Refused cycle) =
    CycleBeginsWith (arcs ++ new ∷ []) (length arcs) cycle.items

-- each other point has an arc to the origin that is not far from tight at the known moments
abbrev pub ReachOrigin : List Arc → List ℕ → ℕ → Type 0
ReachOrigin arcs known amount =
    (x : ℕ) → 0 < x → x < length known → (k : ℕ)
    × (k < length arcs)
    × ((arc_at arcs k).from ≡ x)
    × ((arc_at arcs k).to ≡ 0)
    × ((pos (slice_index known x) +ℤ (arc_at arcs k).weight) <ℤ pos amount)
    × (pos 0 ≤ℤ (pos 0 -ℤ (arc_at arcs k).weight))

-- each other point has an arc from the origin that is not far from tight at the known moments
abbrev pub FromOrigin : List Arc → List ℕ → ℕ → Type 0
FromOrigin arcs known amount =
    (x : ℕ) → 0 < x → x < length known → (k : ℕ)
    × (k < length arcs)
    × ((arc_at arcs k).from ≡ 0)
    × ((arc_at arcs k).to ≡ x)
    × ((arc_at arcs k).weight <ℤ (pos (slice_index known x) +ℤ pos amount))

-- least moments of the arcs, with all numbers far from the ends of the machine's
pub record HoldsLeast (arcs : List Arc) (low : List ℕ) : Type 0 where
  pub origin : 0 < length low
  pub small : All IsSmall low
  pub weights : All (λ e. IsSmallWeight e.weight) arcs
  pub among : All (JoinsPoints (length low)) arcs
  pub least : IsLeast arcs low

-- A solution from which the least and the greatest moments can be worked out: no point is as far from the origin as
-- the amount.
pub record IsStart (arcs : List Arc) (known : List ℕ) (amount : ℕ) : Type 0 where
  pub origin : 0 < length known
  pub small : All IsSmall known
  pub weights : All (λ e. IsSmallWeight e.weight) arcs
  pub among : All (JoinsPoints (length known)) arcs
  pub solution : IsSolution arcs (moment known)
  pub reach : ReachOrigin arcs known amount
  pub from : FromOrigin arcs known amount
