use Rattle.std.proofs.Common.{◌≡◌, ◌++◌, map, length, take, drop}
use Rattle.tp_ground_bindings.specs.Rows.{row_at, lists_of}
use Rattle.tp_ground_bindings.proofs.rows.fill.Given as goal

abbrev pub invariant-loop-index : goal.invariant-loop-index
invariant-loop-index l = record {
  wide : length l.row ≡ length l.fn.row;
  so_far : map (λ o. o.now) (take l.index l.row) ++ row_at (drop l.index (lists_of l.lists)) (drop l.index l.places) ≡ row_at (lists_of l.lists) l.places;
}
