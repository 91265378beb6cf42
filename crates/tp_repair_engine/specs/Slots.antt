-- The edges as they would be after a change.
use Rattle.std.specs.Prelude.{◌≡◌, ℕ, ◌<◌, ◌≤◌, List, length, Option, Some, None, map, slice_index, slice_index_or, slice_set}
use Rattle.std.specs.Option.{option_map}
use Rattle.tp_bounds.specs.declared.Edge.{Edge}
use Rattle.tp_bounds.specs.declared.Edge.TheVariants.{Own, New, PastHigh, PastLow, Now, End}
use Rattle.tp_net.specs.Arcs.{raised_by, past_name, past_arc}
use Rattle.tp_repair_engine.specs.declared.store.Node.{Node}
use Rattle.tp_repair_engine.specs.Asked.{IsFromEvent}

-- an edge when now is raised: that of a floor moves along
abbrev pub raised_node : ℕ → List ℕ → Node → Node
raised_node now lags n =
    record {
      name = n.name;
      arc = raised_by now lags n.name n.arc;
      place_in = n.place_in;
      place_out = n.place_out;
    }

abbrev pub raised_slots : ℕ → List ℕ → List (Option Node) → List (Option Node)
raised_slots now lags slots = map (option_map (raised_node now lags)) slots

-- an edge when an event is fixed: its floor and its end give way to its moment
abbrev pub past_node : ℕ → ℕ → Node → Node
past_node e moment n =
    record {
      name = past_name e n.name;
      arc = past_arc e moment n.name n.arc;
      place_in = n.place_in;
      place_out = n.place_out;
    }

abbrev pub past_slots : ℕ → ℕ → List (Option Node) → List (Option Node)
past_slots e moment slots = map (option_map (past_node e moment)) slots

-- the edges without that under a key
abbrev pub left_slots : ℕ → List (Option Node) → List (Option Node)
left_slots key slots = slice_set slots key None

-- a floor is of an event that is not fixed, and stands under its key
abbrev pub IsOpenFloor : List ℕ → List (Option ℕ) → Edge → ℕ → Type 0
IsOpenFloor floors fixed (Own id) k = Unit {0}
IsOpenFloor floors fixed New k = Unit {0}
IsOpenFloor floors fixed (PastHigh e) k = Unit {0}
IsOpenFloor floors fixed (PastLow e) k = Unit {0}
IsOpenFloor floors fixed (Now e) k =
    (e < length fixed) × (slice_index_or fixed e None ≡ None) × (slice_index floors e ≡ k)
IsOpenFloor floors fixed (End e) k = Unit {0}

-- the floors of the events that are not fixed stand under their keys, and under no others
pub record AreOpenFloors (floors : List ℕ) (fixed : List (Option ℕ)) (slots : List (Option Node))
    : Type 0 where
  pub events : length fixed ≤ 1024
  pub len : length floors ≡ length fixed
  pub there : (e : ℕ) → e < length fixed → slice_index_or fixed e None ≡ None → (n : Node)
      × (slice_index_or slots (slice_index floors e) None ≡ Some n) × (n.name ≡ Now e)
  pub only : (k : ℕ) (n : Node) → slice_index_or slots k None ≡ Some n
      → IsOpenFloor floors fixed n.name k

-- each edge is the one that it is at an earlier moment
pub record AreAtEarlier (now : ℕ) (lags : List ℕ) (slots : List (Option Node)) : Type 0 where
  pub from : (k : ℕ) (n : Node) → slice_index_or slots k None ≡ Some n → IsFromEvent n.name n.arc
  pub clock : ℕ
  pub earlier : clock ≤ now
  pub arcs : (k : ℕ) (n : Node) → slice_index_or slots k None ≡ Some n
      → n.arc ≡ (raised_node clock lags n).arc
