-- The edges of events with the origin, before any bound.
use Rattle.std.specs.Prelude.{◌≡◌, ◌⊎◌, ℕ, suc, ◌*◌, ◌<◌, ◌≤◌, List, length, slice_index, slice_index_or, Some, None}
use Rattle.tp_bounds.specs.declared.Edge.TheVariants.{Now, End}
use Rattle.tp_bounds.specs.Reasons.{at_least, at_most}
use Rattle.tp_net.specs.Arcs.{arc_of}
use Rattle.tp_repair_engine.specs.declared.store.Node.{Node}
use Rattle.tp_repair_engine.specs.declared.store.Store.{Store}
use Rattle.tp_repair_engine.specs.declared.store.Direction.{Direction}
use Rattle.tp_repair_engine.specs.declared.store.Direction.TheVariants.{Up, Down}
use Rattle.tp_repair_engine.specs.Store.{keys_of, AreHalves}
use Rattle.tp_repair_engine.specs.Flow.{sum_to}

-- the floor of an event at 0, and its end
pub record IsFloor (floors : List ℕ) (j k : ℕ) (n : Node) : Type 0 where
  pub name : n.name ≡ Now j
  pub arc : n.arc ≡ arc_of (at_least j 0)
  pub key : slice_index floors j ≡ k

pub record IsEnd (horizon : ℕ) (ends : List ℕ) (j k : ℕ) (n : Node) : Type 0 where
  pub name : n.name ≡ End j
  pub arc : n.arc ≡ arc_of (at_most j horizon)
  pub key : slice_index ends j ≡ k

-- the two edges of each event below `upto`, and no others
pub record IsStar (horizon points upto : ℕ) (floors ends : List ℕ) (store : Store) : Type 0 where
  pub into_len : length store.into.items ≡ points
  pub out_len : length store.out.items ≡ points
  pub halves_in : AreHalves Up store.nodes.slots store.into.items
  pub halves_out : AreHalves Down store.nodes.slots store.out.items
  pub floors_len : length floors ≡ upto
  pub ends_len : length ends ≡ upto
  pub exist : (k : ℕ) (n : Node) → slice_index_or store.nodes.slots k None ≡ Some n → (j : ℕ)
      × (j < upto) × (IsFloor floors j k n ⊎ IsEnd horizon ends j k n)
  pub floor : (j : ℕ) → j < upto → (n : Node)
      × (slice_index_or store.nodes.slots (slice_index floors j) None ≡ Some n) × (n.name ≡ Now j)
  pub end : (j : ℕ) → j < upto → (n : Node)
      × (slice_index_or store.nodes.slots (slice_index ends j) None ≡ Some n) × (n.name ≡ End j)
  pub many : (d : Direction) → sum_to (λ y. length (keys_of d store y)) points ≡ 2 * upto
  pub one : (d : Direction) (j : ℕ) → j < upto → length (keys_of d store (suc j)) ≡ 1
  pub none : (d : Direction) (j : ℕ) → upto ≤ j → length (keys_of d store (suc j)) ≡ 0
