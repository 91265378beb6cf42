-- Moments that come nearer to the least, or to the greatest, solution of a distance graph from one side.
use Rattle.std.specs.Prelude.{ℕ, ◌+◌, ◌<◌, ◌^◌, List, [], ◌∷◌, length, All, slice_index, ℤ, ◌≤ℤ◌}
use Rattle.tp_net.specs.declared.slacks.Arc.{Arc}
use Rattle.tp_net.specs.Graph.{IsSolution, moment}
use Rattle.tp_net.specs.Slacks.{JoinsPoints}
use Rattle.tp_net.specs.Sizes.{IsSmall, IsSmallWeight}

-- no point is later than t has it
abbrev pub IsBelow : List ℕ → (ℕ → ℤ) → Type 0
IsBelow low t = (x : ℕ) → x < length low → moment low x ≤ℤ t x

-- no point is earlier than t has it
abbrev pub IsAbove : List ℕ → (ℕ → ℤ) → Type 0
IsAbove high t = (x : ℕ) → x < length high → t x ≤ℤ moment high x

-- no point is later than any solution has it
abbrev pub AreLow : List Arc → List ℕ → Type 0
AreLow arcs low = (t : ℕ → ℤ) → IsSolution arcs t → IsBelow low t

-- no point is earlier than any solution has it
abbrev pub AreHigh : List Arc → List ℕ → Type 0
AreHigh arcs high = (t : ℕ → ℤ) → IsSolution arcs t → IsAbove high t

-- no moment is near the end of the machine's numbers
abbrev pub AreFar : List ℕ → Type 0
AreFar moments = (x : ℕ) → x < length moments → slice_index moments x < 2 ^ 42

-- all moments together
abbrev pub total : List ℕ → ℕ
total [] = 0
total (m ∷ ms) = m + total ms

-- these moments are a solution, with all numbers far from the ends of the machine's
pub record IsKnown (arcs : List Arc) (known : List ℕ) : Type 0 where
  pub small : All IsSmall known
  pub weights : All (λ e. IsSmallWeight e.weight) arcs
  pub among : All (JoinsPoints (length known)) arcs
  pub solution : IsSolution arcs (moment known)
