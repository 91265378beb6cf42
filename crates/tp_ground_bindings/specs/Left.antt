-- The rows that are still to come.
use Rattle.std.specs.Prelude.{ℕ, List, ◌∷◌, if◌then◌else◌}
use Rattle.tp_ground_bindings.specs.Rows.{lists_of, row_at, rows_behind}
use Rattle.tp_ground_bindings.specs.declared.odometer.Rows.{Rows}

abbrev pub rows_left : Rows → List (List (List ℕ))
rows_left r =
    if r.is_fresh then row_at (lists_of r.lists.items) r.places.items ∷ rows_behind (lists_of r.lists.items) r.places.items
    else rows_behind (lists_of r.lists.items) r.places.items
