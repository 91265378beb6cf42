-- Arcs under keys, and for each point two lists: of the arcs that end there, and of those that begin there.
use Rattle.std.specs.Prelude.{◌≡◌, ℕ, zero, suc, ◌<◌, List, [], ◌∷◌, length, map, slice_index_or, ℤ, pos, cond, nat_eq, ◌≢◌, Option, Some, None}
use Rattle.std.specs.declared.alloc.Global.{Global}
use Rattle.std.specs.declared.vec.Vec.{Vec}
use Rattle.tp_net.specs.declared.slacks.Arc.{Arc}
use Rattle.tp_bounds.specs.declared.Edge.{Edge}
use Rattle.tp_bounds.specs.declared.Edge.TheVariants.{New}
use Rattle.tp_net.specs.Graph.{no_arc}
use Rattle.tp_repair_engine.specs.declared.store.Node.{Node}
use Rattle.tp_repair_engine.specs.declared.store.Half.{Half}
use Rattle.tp_repair_engine.specs.declared.store.Store.{Store}
use Rattle.tp_repair_engine.specs.declared.store.Direction.{Direction}
use Rattle.tp_repair_engine.specs.declared.store.Direction.TheVariants.{Up, Down}

-- the arc under a key; a key that is free stands for an arc that any moments meet
abbrev pub arc_in : Option Node → Arc
arc_in None = no_arc
arc_in (Some n) = n.arc

-- the arcs, by key
abbrev pub arcs_of : List (Option Node) → List Arc
arcs_of slots = map arc_in slots

-- the point in whose list an arc stands: rising moments go through the arcs that end at a point, falling ones through
-- those that begin there
abbrev pub near : Direction → Arc → ℕ
near Up e = e.to
near Down e = e.from

-- the point at the other end of an arc
abbrev pub far_end : Direction → Arc → ℕ
far_end Up e = e.from
far_end Down e = e.to

-- the place of an edge in the list of its point
abbrev pub place_of : Direction → Node → ℕ
place_of Up n = n.place_in
place_of Down n = n.place_out

-- the arc for which a half stands in the list of a point
abbrev pub arc_along : Direction → ℕ → Half → Arc
arc_along Up point h = record { from = h.far; to = point; weight = h.weight }
arc_along Down point h = record { from = point; to = h.far; weight = h.weight }

-- what stands for a half where there is none
abbrev pub no_half : Half
no_half = record { far = 0; key = 0; weight = pos 0 }

abbrev pub half_at : List Half → ℕ → Half
half_at halves j = slice_index_or halves j no_half

-- the half of an edge in one of its lists
abbrev pub half_of : Direction → ℕ → Arc → Half
half_of d key e = record { far = far_end d e; key = key; weight = e.weight }

-- the list of a point
abbrev pub halves_at : List (Vec Half Global) → ℕ → List Half
halves_at [] y = []
halves_at (v ∷ vs) zero = v.items
halves_at (v ∷ vs) (suc y) = halves_at vs y

abbrev pub keys_in : List Half → List ℕ
keys_in halves = map (λ (h : Half). h.key) halves

abbrev pub lists_of : Direction → Store → List (Vec Half Global)
lists_of Up s = s.into.items
lists_of Down s = s.out.items

-- the keys of the edges in the list of a point
abbrev pub keys_of : Direction → Store → ℕ → List ℕ
keys_of d s y = keys_in (halves_at (lists_of d s) y)

-- the half is that of an edge, which is near the point and knows this place
pub record IsHalfOf (d : Direction) (node : Node) (point place : ℕ) (h : Half) : Type 0 where
  pub far : h.far ≡ far_end d node.arc
  pub weight : h.weight ≡ node.arc.weight
  pub near_point : near d node.arc ≡ point
  pub at_place : place_of d node ≡ place

-- the half stands for the edge under its key
pub record IsHalf (d : Direction) (slots : List (Option Node)) (point place : ℕ)
    (h : Half) : Type 0 where
  pub there : slice_index_or slots h.key None ≢ None
  pub each : (n : Node) → slice_index_or slots h.key None ≡ Some n → IsHalfOf d n point place h

-- each edge stands in the list of its point, at the place that it knows, and nothing else does
pub record AreHalves (d : Direction) (slots : List (Option Node))
    (lists : List (Vec Half Global)) : Type 0 where
  pub stand : (y j : ℕ) → j < length (halves_at lists y)
      → IsHalf d slots y j (half_at (halves_at lists y) j)
  pub complete : (k : ℕ) (n : Node) → slice_index_or slots k None ≡ Some n
      → (place_of d n < length (halves_at lists (near d n.arc)))
      × ((half_at (halves_at lists (near d n.arc)) (place_of d n)).key ≡ k)

-- the same, but for one place, whose half stands for no edge
pub record AreHalvesBut (d : Direction) (slots : List (Option Node))
    (lists : List (Vec Half Global)) (point place : ℕ) : Type 0 where
  pub here : place < length (halves_at lists point)
  pub stand : (y j : ℕ) → j < length (halves_at lists y) → (y ≡ point → j ≢ place)
      → IsHalf d slots y j (half_at (halves_at lists y) j)
  pub complete : (k : ℕ) (n : Node) → slice_index_or slots k None ≡ Some n
      → (place_of d n < length (halves_at lists (near d n.arc)))
      × ((half_at (halves_at lists (near d n.arc)) (place_of d n)).key ≡ k)
  pub apart : (k : ℕ) (n : Node) → slice_index_or slots k None ≡ Some n → near d n.arc ≡ point
      → place_of d n ≢ place

-- a node of this name and this arc
abbrev pub IsNode : Edge → Arc → Option Node → Type 0
IsNode name arc None = ⊥
IsNode name arc (Some n) = (n.name ≡ name) × (n.arc ≡ arc)

-- the place in the list of the other point
abbrev pub other_place : Direction → Node → ℕ
other_place Up n = n.place_out
other_place Down n = n.place_in

-- under each key there is what was there, but for places in lists of one kind
pub record AreMoved (d : Direction) (old new : List (Option Node)) : Type 0 where
  pub forth : (k : ℕ) (n : Node) → slice_index_or old k None ≡ Some n → (m : Node)
      × (slice_index_or new k None ≡ Some m) × (m.name ≡ n.name) × (m.arc ≡ n.arc)
      × (other_place d m ≡ other_place d n)
  pub back : (k : ℕ) (m : Node) → slice_index_or new k None ≡ Some m → (n : Node)
      × (slice_index_or old k None ≡ Some n) × (m.name ≡ n.name) × (m.arc ≡ n.arc)
      × (other_place d m ≡ other_place d n)

-- 1 at one point, and 0 at the others
abbrev pub one_at : ℕ → ℕ → ℕ
one_at p y = cond (nat_eq y p) 1 0

-- there are lists for the points of an arc
abbrev pub HasPoints : Store → Arc → Type 0
HasPoints s e = (e.to < length s.into.items) × (e.from < length s.out.items)

-- both have lists for as many points
abbrev pub SamePoints : Store → Store → Type 0
SamePoints old new =
    (length new.into.items ≡ length old.into.items) × (length new.out.items ≡ length old.out.items)

-- an edge with another place in one of its lists
abbrev pub placed : Direction → ℕ → Node → Node
placed Up place n = record { name = n.name; arc = n.arc; place_in = place; place_out = n.place_out }
placed Down place n =
    record { name = n.name; arc = n.arc; place_in = n.place_in; place_out = place }

-- under each other key there is an edge of the name and the arc that it had, or none as before
pub record KeepsOthers (key : ℕ) (old new : List (Option Node)) : Type 0 where
  pub forth : (k : ℕ) (n : Node) → k ≢ key → slice_index_or old k None ≡ Some n → (m : Node)
      × (slice_index_or new k None ≡ Some m) × (m.name ≡ n.name) × (m.arc ≡ n.arc)
  pub back : (k : ℕ) (m : Node) → k ≢ key → slice_index_or new k None ≡ Some m → (n : Node)
      × (slice_index_or old k None ≡ Some n) × (m.name ≡ n.name) × (m.arc ≡ n.arc)

-- an edge with another name and another weight
abbrev pub weighed : Edge → ℤ → Node → Node
weighed name w n =
    record {
      name = name;
      arc = record { from = n.arc.from; to = n.arc.to; weight = w };
      place_in = n.place_in;
      place_out = n.place_out;
    }

-- there is an edge under the key
abbrev pub HasNode : List (Option Node) → ℕ → Type 0
HasNode slots k = (n : Node) × (slice_index_or slots k None ≡ Some n)

-- the name of an edge
abbrev pub name_in : Option Node → Edge
name_in None = New
name_in (Some n) = n.name

-- the edges that there are, by rising key
abbrev pub nodes_of : List (Option Node) → List Node
nodes_of [] = []
nodes_of (None ∷ slots) = nodes_of slots
nodes_of (Some n ∷ slots) = n ∷ nodes_of slots

-- their names, and their arcs
abbrev pub names_of : List (Option Node) → List Edge
names_of slots = map (λ (n : Node). n.name) (nodes_of slots)

abbrev pub kept_arcs : List (Option Node) → List Arc
kept_arcs slots = map (λ (n : Node). n.arc) (nodes_of slots)
