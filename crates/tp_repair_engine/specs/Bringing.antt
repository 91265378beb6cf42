-- What a network is after a bound was brought in, or was not.
use Rattle.std.specs.Prelude.{◌≡◌, ℕ, ◌+◌, ◌<◌, ◌^◌, length, Option, Some, None, cond}
use Rattle.std.specs.declared.alloc.Global.{Global}
use Rattle.std.specs.declared.vec.Vec.{Vec}
use Rattle.std.specs.Ordering.{nat_cmp}
use Rattle.std.specs.BTreeMap.{BTreeMap, get, is_at}
use Rattle.std.specs.FinMap.{insert}
use Rattle.tp_bounds.specs.declared.Bound.{Bound}
use Rattle.tp_bounds.specs.declared.BoundId.{BoundId}
use Rattle.tp_bounds.specs.declared.Edge.TheVariants.{Own}
use Rattle.tp_net.specs.declared.slacks.Arc.{Arc}
use Rattle.tp_net.specs.Arcs.{arc_of}
use Rattle.tp_bounds.specs.Held.{held}
use Rattle.tp_net.specs.Moments.{AreExact, CycleBeginsWith}
use Rattle.std.specs.Prelude.{[], ◌∷◌, ◌++◌}
use Rattle.tp_repair_engine.specs.declared.store.Store.{Store}
use Rattle.tp_repair_engine.specs.declared.engine.Engine.{Engine}
use Rattle.tp_repair_engine.specs.declared.store.Direction.{Direction}
use Rattle.tp_repair_engine.specs.Store.{arcs_of, keys_of, near, one_at}
use Rattle.tp_repair_engine.specs.Work.{AreThere}
use Rattle.tp_repair_engine.specs.Engine.{IsWired, AreSame, IsEntered}
use Rattle.tp_repair_engine.specs.Costs.{SameDegrees}
use Rattle.std.specs.Prelude.{slice_index}

-- one more edge stands in each list in which an arc does
abbrev pub IsMore : Arc → Store → Store → Type 0
IsMore arc old new =
    (d : Direction) (y : ℕ)
    → length (keys_of d new y) ≡ length (keys_of d old y) + one_at (near d arc) y

-- neither a bound nor a key stands under an identifier
abbrev pub IsFree : ℕ → BTreeMap ℕ Bound → BTreeMap ℕ ℕ → Type 0
IsFree id bounds keys = (get nat_cmp bounds id ≡ None) × (get nat_cmp keys id ≡ None)

-- a bound and a key stand under an identifier
pub record IsRecorded (id : ℕ) (bound : Bound) (key : ℕ) (bounds bounds' : BTreeMap ℕ Bound)
    (keys keys' : BTreeMap ℕ ℕ) : Type 0 where
  pub holds : held bounds'.entries ≡ insert (held bounds.entries) id bound
  pub len : length bounds'.entries ≡ length bounds.entries + 1
  pub finds : (q : ℕ)
      → get nat_cmp keys' q ≡ cond (is_at (nat_cmp id) q) (Some key) (get nat_cmp keys q)

-- the least moments are greater, and the greatest less, by what was worked out
pub record AreMovedBy (g g' : Engine) : Type 0 where
  pub up :
      (x : ℕ) → x < length g.low.items
      → slice_index g'.low.items x ≡ slice_index g.low.items x + slice_index g'.up.amounts.items x
  pub down : (x : ℕ) → x < length g.low.items → slice_index g'.high.items x
      + slice_index g'.down.amounts.items x ≡ slice_index g.high.items x

-- nothing has changed
pub record IsUnbrought (g g' : Engine) (bounds bounds' : BTreeMap ℕ Bound)
    (keys keys' : BTreeMap ℕ ℕ) : Type 0 where
  pub wired : (edges : ℕ) → IsWired (length g.low.items) edges g
      → IsWired (length g.low.items) edges g'
  pub edges : AreSame g.store.nodes.slots g'.store.nodes.slots
  pub degrees : SameDegrees g.store g'.store
  pub low : g'.low.items ≡ g.low.items
  pub high : g'.high.items ≡ g.high.items
  pub holds : bounds'.entries ≡ bounds.entries
  pub finds : (q : ℕ) → get nat_cmp keys' q ≡ get nat_cmp keys q

-- the bound is there, with the moments that it leaves
pub record IsBroughtIn (id : BoundId) (bound : Bound) (g g' : Engine)
    (bounds bounds' : BTreeMap ℕ Bound) (keys keys' : BTreeMap ℕ ℕ) : Type 0 where
  pub key : ℕ
  pub wired : (edges : ℕ) → IsWired (length g.low.items) edges g → edges + 1 < 2 ^ 61
      → IsWired (length g.low.items) (edges + 1) g'
  pub entered : IsEntered (Own id) (arc_of bound) key g.store.nodes.slots g'.store.nodes.slots
  pub recorded : IsRecorded id.0 bound key bounds bounds' keys keys'
  pub more : IsMore (arc_of bound) g.store g'.store
  pub exact : AreExact (arcs_of g'.store.nodes.slots) g'.low.items g'.high.items
  pub moves : AreMovedBy g g'

abbrev pub IsBrought : BoundId → Bound → Engine → Engine → BTreeMap ℕ Bound → BTreeMap ℕ Bound
    → BTreeMap ℕ ℕ → BTreeMap ℕ ℕ → Option (Vec ℕ Global) → Type 0
IsBrought id bound g g' bounds bounds' keys keys' None =
    IsBroughtIn id bound g g' bounds bounds' keys keys'
IsBrought id bound g g' bounds bounds' keys keys' (Some path) =
    IsUnbrought g g' bounds bounds' keys keys' × (g'.store ≡ g.store)
    × CycleBeginsWith (arcs_of g.store.nodes.slots ++ arc_of bound ∷ [])
    (length (arcs_of g.store.nodes.slots)) (length (arcs_of g.store.nodes.slots) ∷ path.items)
    × AreThere g.store.nodes.slots (Some path)
