use Rattle.std.proofs.Common.{◌≡◌, ◌++◌, length, map, take}
use Rattle.std.specs.List.{flat_map}
use Rattle.tp_ground_joins.specs.Views.{keyed_view, row_view}
use Rattle.tp_ground_joins.specs.Walks.{walked_with}
use Rattle.tp_ground_joins.proofs.rows.+walk.Given as goal

abbrev pub decreases-walk : goal.decreases-walk
decreases-walk l = length l.levels.now

abbrev pub invariant-loop-name : goal.invariant-loop-name
invariant-loop-name l =
    (map row_view l.found.rows.items ≡ map row_view l.initial.found.rows.items ++ flat_map (walked_with l.level.checks.items l.rest (map keyed_view l.initial.row.items)) (take l.name-index l.name-items))
    × (l.row.items ≡ l.initial.row.items)
