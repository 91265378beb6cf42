-- The distance graph of a simple temporal network (Dechter, Meiri and Pearl 1991, section 3): points are numbered, 0 is
-- the origin.
use Rattle.std.specs.Prelude.{◌≡◌, ◌≢◌, ℕ, ◌<◌, List, [], ◌∷◌, length, All, AllPairs, slice_index, slice_index_or, ℤ, pos, ◌+ℤ◌, ◌≤ℤ◌, ◌<ℤ◌}
use Rattle.tp_net.specs.declared.slacks.Arc.{Arc}

-- the moments t of the points meet an arc
abbrev pub MeetsArc : (ℕ → ℤ) → Arc → Type 0
MeetsArc t e = t e.to ≤ℤ (t e.from +ℤ e.weight)

-- the origin is at 0, and each arc is met
abbrev pub IsSolution : List Arc → (ℕ → ℤ) → Type 0
IsSolution arcs t = (t 0 ≡ pos 0) × All (MeetsArc t) arcs

-- what stands for an arc where there is none
abbrev pub no_arc : Arc
no_arc = record { from = 0; to = 0; weight = pos 0 }

-- the arc of this number
abbrev pub arc_at : List Arc → ℕ → Arc
arc_at arcs k = slice_index_or arcs k no_arc

-- the arcs of these numbers lead from a to b
abbrev pub IsChain : List Arc → ℕ → ℕ → List ℕ → Type 0
IsChain arcs a b [] = a ≡ b
IsChain arcs a b (k ∷ ks) =
    (k < length arcs) × ((arc_at arcs k).from ≡ a) × IsChain arcs (arc_at arcs k).to b ks

-- the sum of the weights of the arcs of these numbers
abbrev pub weight_of : List Arc → List ℕ → ℤ
weight_of arcs [] = pos 0
weight_of arcs (k ∷ ks) = (arc_at arcs k).weight +ℤ weight_of arcs ks

-- a closed chain of existing arcs, no point twice, of a sum below 0 (Dechter, Meiri and Pearl 1991, theorem 3.1)
pub record IsNegativeCycle (arcs : List Arc) (cycle : List ℕ) : Type 0 where
  pub start : ℕ
  pub chain : IsChain arcs start start cycle
  pub simple : AllPairs (λ j k. (arc_at arcs j).from ≢ (arc_at arcs k).from) cycle
  pub below : weight_of arcs cycle <ℤ pos 0

-- no moments meet all arcs
abbrev pub HasNoSolution : List Arc → Type 0
HasNoSolution arcs = (t : ℕ → ℤ) → IsSolution arcs t → ⊥

-- the moments in a list
abbrev pub moment : List ℕ → ℕ → ℤ
moment moments x = pos (slice_index moments x)

-- of all solutions the one with the least moments, for each point
pub record IsLeast (arcs : List Arc) (low : List ℕ) : Type 0 where
  pub solution : IsSolution arcs (moment low)
  pub least : (t : ℕ → ℤ) → IsSolution arcs t → (x : ℕ) → x < length low → moment low x ≤ℤ t x

-- of all solutions the one with the greatest moments, for each point
pub record IsGreatest (arcs : List Arc) (high : List ℕ) : Type 0 where
  pub solution : IsSolution arcs (moment high)
  pub greatest : (t : ℕ → ℤ) → IsSolution arcs t → (x : ℕ) → x < length high → t x ≤ℤ moment high x
