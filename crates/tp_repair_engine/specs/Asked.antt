-- What is asked of the least moments, and how far they rise for it.
use Rattle.std.specs.Prelude.{◌≡◌, ℕ, suc, ◌+◌, ◌<◌, ◌≤◌, List, length, slice_index, slice_index_or, Option, None, All, ℤ, pos, ◌≤ℤ◌}
use Rattle.tp_net.specs.declared.slacks.Arc.{Arc}
use Rattle.tp_net.specs.Graph.{MeetsArc, IsSolution}
use Rattle.tp_net.specs.Arcs.{floor_at}
use Rattle.tp_bounds.specs.declared.Edge.{Edge}
use Rattle.tp_bounds.specs.declared.Edge.TheVariants.{Own, New, PastHigh, PastLow, Now, End}
use Rattle.tp_repair_engine.specs.declared.flow.Work.{Work}
use Rattle.tp_repair_engine.specs.Work.{IsReady}

-- the point is an event below upto that is not fixed, and the moment its floor
abbrev pub AsksUpto : ℕ → List (Option ℕ) → List ℕ → ℕ → ℕ → ℕ → Type 0
AsksUpto upto fixed lags now x m =
    (e : ℕ) × (x ≡ suc e) × (e < upto) × (slice_index_or fixed e None ≡ None)
    × (m ≡ floor_at now lags e)

abbrev pub AsksFloor : List (Option ℕ) → List ℕ → ℕ → ℕ → ℕ → Type 0
AsksFloor fixed lags now x m = AsksUpto (length fixed) fixed lags now x m

-- a moment for the origin and one for each event
abbrev pub HaveMoments : List (Option ℕ) → List ℕ → Type 0
HaveMoments fixed low = (length fixed ≤ 1024) × (length low ≡ suc (length fixed))

-- each point has by how much what is asked of it passes its least moment
pub record AreOffered (asks : ℕ → ℕ → Type 0) (low : List ℕ) (w : Work) : Type 0 where
  pub ready : IsReady (length low) w
  pub enough : (x m : ℕ) → asks x m → m ≤ slice_index low x + slice_index w.amounts.items x
  pub some : (x : ℕ) → 0 < slice_index w.amounts.items x
      → asks x (slice_index low x + slice_index w.amounts.items x)

-- moments that are greater by these amounts meet the arcs and what is asked, and are at most those of each solution that
-- does
pub record IsRaisedTo (arcs : List Arc) (asks : ℕ → ℕ → Type 0)
    (low amounts : List ℕ) : Type 0 where
  pub len : length amounts ≡ length low
  pub meets : All (MeetsArc (λ x. pos (slice_index low x + slice_index amounts x))) arcs
  pub enough : (x m : ℕ) → asks x m → m ≤ slice_index low x + slice_index amounts x
  pub least : (t : ℕ → ℤ) → IsSolution arcs t → ((x m : ℕ) → asks x m → pos m ≤ℤ t x) → (x : ℕ)
      → x < length low → pos (slice_index low x + slice_index amounts x) ≤ℤ t x

-- a floor is an arc from its event to the origin
abbrev pub IsFromEvent : Edge → Arc → Type 0
IsFromEvent (Own id) a = Unit {0}
IsFromEvent New a = Unit {0}
IsFromEvent (PastHigh e) a = Unit {0}
IsFromEvent (PastLow e) a = Unit {0}
IsFromEvent (Now e) a = (a.from ≡ suc e) × (a.to ≡ 0)
IsFromEvent (End e) a = Unit {0}
