-- What holds of the edges of a network that is repaired.
use Rattle.std.specs.Prelude.{◌≡◌, ℕ, List, slice_index, slice_index_or, Option, Some, None}
use Rattle.std.specs.Ordering.{nat_cmp}
use Rattle.std.specs.BTreeMap.{BTreeMap, get}
use Rattle.tp_bounds.specs.declared.Bound.{Bound}
use Rattle.tp_bounds.specs.declared.Edge.{Edge}
use Rattle.tp_bounds.specs.declared.Edge.TheVariants.{Own, New, PastHigh, PastLow, Now, End}
use Rattle.tp_bounds.specs.Setting.{Setting}
use Rattle.tp_bounds.specs.Reasons.{bound_of}
use Rattle.tp_net.specs.Arcs.{arc_of}
use Rattle.tp_repair_engine.specs.declared.store.Node.{Node}

-- The edge is under this key: a bound has the key that stands under its identifier, and the two edges of an event with
-- the origin keep theirs when their names change.
abbrev pub IsUnder : BTreeMap ℕ ℕ → List ℕ → List ℕ → Edge → ℕ → Type 0
IsUnder keys floors ends (Own id) k = get nat_cmp keys id.0 ≡ Some k
IsUnder keys floors ends New k = ⊥
IsUnder keys floors ends (PastHigh e) k = slice_index ends e ≡ k
IsUnder keys floors ends (PastLow e) k = slice_index floors e ≡ k
IsUnder keys floors ends (Now e) k = slice_index floors e ≡ k
IsUnder keys floors ends (End e) k = slice_index ends e ≡ k

-- each node is an edge of the setting, and each edge of the setting has a node, under its key
pub record AreNodes (s : Setting) (keys : BTreeMap ℕ ℕ) (floors ends : List ℕ)
    (slots : List (Option Node)) : Type 0 where
  pub exist : (k : ℕ) (n : Node) → slice_index_or slots k None ≡ Some n → (b : Bound)
      × (bound_of s n.name ≡ Some b) × (n.arc ≡ arc_of b)
  pub all : (e : Edge) (b : Bound) → bound_of s e ≡ Some b → (k : ℕ) × (n : Node)
      × (slice_index_or slots k None ≡ Some n) × (n.name ≡ e)
  pub under : (k : ℕ) (n : Node) → slice_index_or slots k None ≡ Some n
      → IsUnder keys floors ends n.name k
