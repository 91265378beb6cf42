-- A network as arcs under keys, with the moments that they leave.
use Rattle.std.specs.Prelude.{◌≡◌, ◌≢◌, ℕ, suc, ◌+◌, ◌*◌, ◌<◌, ◌≤◌, ◌^◌, List, length, ◌⊎◌, ◌+ℤ◌, ◌-ℤ◌, ◌<ℤ◌, ◌≤ℤ◌, pos, Option, Some, None, slice_index, slice_index_or}
use Rattle.std.specs.Ordering.{nat_cmp}
use Rattle.std.specs.BTreeMap.{BTreeMap}
use Rattle.std.specs.BTreeMap as tree
use Rattle.std.specs.FinMap as map
use Rattle.tp_bounds.specs.declared.Edge.{Edge}
use Rattle.tp_bounds.specs.declared.Edge.TheVariants.{Now, End}
use Rattle.tp_bounds.specs.Setting.{Setting, event_count}
use Rattle.tp_net.specs.declared.slacks.Arc.{Arc}
use Rattle.tp_net.specs.Graph.{moment}
use Rattle.tp_net.specs.Sizes.{IsSmallWeight}
use Rattle.tp_net.specs.Slacks.{JoinsPoints}
use Rattle.tp_net.specs.Moments.{AreExact, HoldsLeast, IsStart}
use Rattle.tp_net.specs.Kept.{IsFit}
use Rattle.tp_repair_engine.specs.declared.store.Node.{Node}
use Rattle.tp_repair_engine.specs.declared.engine.Engine.{Engine}
use Rattle.tp_repair_engine.specs.declared.store.Direction.TheVariants.{Up, Down}
use Rattle.tp_repair_engine.specs.Store.{arcs_of, kept_arcs, keys_of, near, one_at, AreHalves, IsNode, KeepsOthers}
use Rattle.tp_repair_engine.specs.declared.store.Direction.{Direction}
use Rattle.tp_repair_engine.specs.Flow.{sum_to}
use Rattle.tp_repair_engine.specs.Work.{IsIdle}
use Rattle.tp_repair_engine.specs.Slots.{left_slots}
use Rattle.tp_repair_engine.specs.Kept.{AreNodes}
use Rattle.tp_repair_engine.specs.Costs.{AreCountedEdges, SameDegrees}

-- the lists are right, for so many points and so many edges, and nothing is being worked out
pub record IsWired (points edges : ℕ) (g : Engine) : Type 0 where
  pub some : 0 < points
  pub low_len : length g.low.items ≡ points
  pub high_len : length g.high.items ≡ points
  pub into_len : length g.store.into.items ≡ points
  pub out_len : length g.store.out.items ≡ points
  pub halves_in : AreHalves Up g.store.nodes.slots g.store.into.items
  pub halves_out : AreHalves Down g.store.nodes.slots g.store.out.items
  pub up : IsIdle points g.up
  pub down : IsIdle points g.down
  pub many_up : sum_to (λ y. length (keys_of Up g.store y)) points ≡ edges
  pub many_down : sum_to (λ y. length (keys_of Down g.store y)) points ≡ edges
  pub few : edges < 2 ^ 61

-- the lists are right, and the moments are the least and the greatest that meet the edges
pub record IsSolved (g : Engine) : Type 0 where
  pub edges : ℕ
  pub wired : IsWired (length g.low.items) edges g
  pub exact : AreExact (arcs_of g.store.nodes.slots) g.low.items g.high.items
  pub holds : HoldsLeast (arcs_of g.store.nodes.slots) g.low.items
  pub low_fits : (x : ℕ) → x < length g.low.items → slice_index g.low.items x < 2 ^ 32
  pub high_fits : (x : ℕ) → x < length g.high.items → slice_index g.high.items x < 2 ^ 32

-- under each key there is an edge of the name and the arc that it had, or none as before
pub record AreSame (old new : List (Option Node)) : Type 0 where
  pub forth : (k : ℕ) (n : Node) → slice_index_or old k None ≡ Some n → (m : Node)
      × (slice_index_or new k None ≡ Some m) × (m.name ≡ n.name) × (m.arc ≡ n.arc)
  pub back : (k : ℕ) (m : Node) → slice_index_or new k None ≡ Some m → (n : Node)
      × (slice_index_or old k None ≡ Some n) × (m.name ≡ n.name) × (m.arc ≡ n.arc)

-- an edge came under a key that was free, and the others stay
pub record IsEntered (name : Edge) (arc : Arc) (key : ℕ)
    (old new : List (Option Node)) : Type 0 where
  pub free : slice_index_or old key None ≡ None
  pub node : IsNode name arc (slice_index_or new key None)
  pub others : (k : ℕ) → k ≢ key → slice_index_or new k None ≡ slice_index_or old k None

-- what holds of a network that is repaired
pub record IsRepaired (s : Setting) (count : ℕ) (keys : BTreeMap ℕ ℕ) (floors ends : List ℕ)
    (g : Engine) : Type 0 where
  pub fit : IsFit s
  pub nodes : AreNodes s keys floors ends g.store.nodes.slots
  pub exact : AreExact (arcs_of g.store.nodes.slots) g.low.items g.high.items
  pub wired : IsWired (suc (event_count s)) (count + 2 * event_count s) g
  pub few : count ≤ 2 ^ 32
  pub ids : (q : ℕ) → map.get s.bounds q ≢ None → q < 2 ^ 32
  pub spare : (q : ℕ) → map.get s.bounds q ≡ None → tree.get nat_cmp keys q ≡ None
  pub floors_len : length floors ≡ event_count s
  pub ends_len : length ends ≡ event_count s
  pub counted : AreCountedEdges s count g.store

-- the edges, the moments and the lists are as before
pub record IsUntouched (g g' : Engine) : Type 0 where
  pub wired : (edges : ℕ) → IsWired (length g.low.items) edges g
      → IsWired (length g.low.items) edges g'
  pub edges : AreSame g.store.nodes.slots g'.store.nodes.slots
  pub degrees : SameDegrees g.store g'.store
  pub low : g'.low.items ≡ g.low.items
  pub high : g'.high.items ≡ g.high.items

-- each edge came to be what it is to be
pub record AreMapped (f : Node → Node) (old new : List (Option Node)) : Type 0 where
  pub forth : (k : ℕ) (n : Node) → slice_index_or old k None ≡ Some n → (m : Node)
      × (slice_index_or new k None ≡ Some m) × (m.name ≡ (f n).name) × (m.arc ≡ (f n).arc)
  pub back : (k : ℕ) (m : Node) → slice_index_or new k None ≡ Some m → (n : Node)
      × (slice_index_or old k None ≡ Some n) × (m.name ≡ (f n).name) × (m.arc ≡ (f n).arc)

-- the edges changed in this way, with the moments that they leave
pub record IsChanged (f : Node → Node) (g g' : Engine) : Type 0 where
  pub wired : (edges : ℕ) → IsWired (length g.low.items) edges g
      → IsWired (length g.low.items) edges g'
  pub edges : AreMapped f g.store.nodes.slots g'.store.nodes.slots
  pub degrees : SameDegrees g.store g'.store
  pub exact : AreExact (arcs_of g'.store.nodes.slots) g'.low.items g'.high.items

-- the edge under a key is gone
pub record IsLeft (key : ℕ) (g g' : Engine) : Type 0 where
  pub wired : (edges : ℕ) → IsWired (length g.low.items) (edges + 1) g
      → IsWired (length g.low.items) edges g'
  pub gone : slice_index_or g'.store.nodes.slots key None ≡ None
  pub keeps : KeepsOthers key g.store.nodes.slots g'.store.nodes.slots
  pub fewer :
      (n : Node) → slice_index_or g.store.nodes.slots key None ≡ Some n → (d : Direction) (y : ℕ)
      → length (keys_of d g'.store y) + one_at (near d n.arc) y ≡ length (keys_of d g.store y)
  pub exact : AreExact (arcs_of g'.store.nodes.slots) g'.low.items g'.high.items

-- an edge may leave: from the moments those without it can be worked out
pub record MayLeave (key amount : ℕ) (g : Engine) : Type 0 where
  pub node : Node
  pub here : slice_index_or g.store.nodes.slots key None ≡ Some node
  pub joins : JoinsPoints (length g.low.items) node.arc
  pub weight : IsSmallWeight node.arc.weight
  pub low : IsStart (kept_arcs (left_slots key g.store.nodes.slots)) g.low.items amount
  pub high : IsStart (kept_arcs (left_slots key g.store.nodes.slots)) g.high.items amount
  pub positive : 0 < amount
  pub amount_fits : amount < 2 ^ 32

-- the moment is in the window of an event
pub record IsInWindow (e moment : ℕ) (g : Engine) : Type 0 where
  pub point : suc e < length g.low.items
  pub above : slice_index g.low.items (suc e) ≤ moment
  pub below : moment ≤ slice_index g.high.items (suc e)

-- the floor and the end of an event stand under these keys, and under no others; both let it happen
-- at the moment
pub record AreFloorAndEnd (e moment floor_key end_key : ℕ) (slots : List (Option Node)) : Type 0
  where
    pub floor : (n : Node) × (slice_index_or slots floor_key None ≡ Some n) × (n.name ≡ Now e)
        × (n.arc.from ≡ suc e) × (n.arc.to ≡ 0) × ((pos 0 -ℤ pos moment) ≤ℤ n.arc.weight)
    pub end : (n : Node) × (slice_index_or slots end_key None ≡ Some n) × (n.name ≡ End e)
        × (n.arc.from ≡ 0) × (n.arc.to ≡ suc e) × (pos moment ≤ℤ n.arc.weight)
    pub only_floor : (k : ℕ) (n : Node) → slice_index_or slots k None ≡ Some n → n.name ≡ Now e
        → k ≡ floor_key
    pub only_end : (k : ℕ) (n : Node) → slice_index_or slots k None ≡ Some n → n.name ≡ End e
        → k ≡ end_key

-- an edge that is tight neither at the least moments nor at the greatest ones
abbrev pub IsLoose : List ℕ → List ℕ → Arc → Type 0
IsLoose low high a =
    ((a.from ≡ 0) ⊎ (moment low a.to <ℤ (moment low a.from +ℤ a.weight)))
    × ((a.to ≡ 0) ⊎ (moment high a.to <ℤ (moment high a.from +ℤ a.weight)))
