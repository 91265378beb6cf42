use Rattle.std.proofs.Common.{◌≡◌, map, take}
use Rattle.tp_ground_joins.specs.Views.{keyed_view, row_view}
use Rattle.tp_ground_joins.proofs.rows.names_of.Given as goal

abbrev pub invariant-loop-one : goal.invariant-loop-one
invariant-loop-one l = row_view l.names ≡ map keyed_view (take l.one-index l.row)
