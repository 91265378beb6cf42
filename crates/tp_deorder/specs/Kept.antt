-- The orders that a network keeps: where an event comes between two others and interferes with both, the order of the two follows
-- from its orders with each.
use Rattle.std.specs.Prelude.{◌≡◌, ℕ, ◌+◌, Bool, not, false, List, [], ◌∷◌, ◌++◌, map, slice_index_or}
use Rattle.std.specs.declared.alloc.Global.{Global}
use Rattle.std.specs.declared.vec.Vec.{Vec}
use Rattle.std.specs.List.{filter, flat_map, list_any}
use Rattle.tp_bounds.specs.declared.Bound.{Bound}
use Rattle.tp_task.specs.State.{State}
use Rattle.tp_task.specs.Valid.{Planned, Placed, events}
use Rattle.tp_deorder.specs.Inequalities.{earlier, only_if, comes_before, steps_bounds}

-- The events of a list that come after an event and interfere with it, by which of two come in this order.
abbrev pub successors : (Placed → Placed → Bool) → List Placed → Placed → List Placed
successors before es a = filter (before a) es

-- some event of a list comes before an event
abbrev pub some_before : (Placed → Placed → Bool) → List Placed → Placed → Bool
some_before before cs b = list_any (λ (c : Placed). before c b) cs

-- An event keeps its order with those of a list that come after none of its successors.
abbrev pub nearest : (Placed → Placed → Bool) → Placed → List Placed → List Placed → List Bound
nearest before a cs bs =
    flat_map (λ (b : Placed). only_if (not (some_before before cs b)) (earlier a.number b.number)) bs

-- The orders of an event, and of each of a list, that do not follow from two others.
abbrev pub kept_order_of : (Placed → Placed → Bool) → List Placed → Placed → List Bound
kept_order_of before es a = nearest before a (successors before es a) (successors before es a)

abbrev pub kept_orders : (Placed → Placed → Bool) → List Placed → List Placed → List Bound
kept_orders before es of_these = flat_map (kept_order_of before es) of_these

-- The bounds of the network of a plan, by the state before each moment of its run.
abbrev pub net_bounds : ℕ → ℕ → (ℕ → State) → List Planned → List Bound
net_bounds horizon scale trace plan =
    kept_orders comes_before (events plan) (events plan)
    ++ steps_bounds horizon scale trace (events plan) 0 plan

-- the events are numbered from k
abbrev pub AreNumbered : ℕ → List Placed → Type 0
AreNumbered k [] = Unit {0}
AreNumbered k (e ∷ es) = (e.number ≡ k) × AreNumbered (k + 1) es

-- For an event, whether each event of a list comes before it; the same for each event of the list.
abbrev pub marks_of : List Placed → Placed → List Bool
marks_of es b = map (λ (c : Placed). comes_before c b) es

abbrev pub table_of : List Placed → List (List Bool)
table_of es = map (marks_of es) es

-- what the marks of an event say of another, by its number
abbrev pub mark_at : List Bool → Placed → Bool
mark_at marks c = slice_index_or marks c.number false

-- the marks of each row
abbrev pub rows_of : List (Vec Bool Global) → List (List Bool)
rows_of rows = map (λ (r : Vec Bool Global). r.items) rows

-- the row of an event, by its number
abbrev pub row_at : List (Vec Bool Global) → Placed → List Bool
row_at rows b = slice_index_or (rows_of rows) b.number []

-- an event comes before another, by the rows
abbrev pub is_told : List (Vec Bool Global) → Placed → Placed → Bool
is_told rows a b = mark_at (row_at rows b) a
