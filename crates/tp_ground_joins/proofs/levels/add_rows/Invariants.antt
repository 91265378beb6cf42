use Rattle.std.proofs.Common.{◌≡◌, true, map, take}
use Rattle.std.specs.List.{AllByRecursion}
use Rattle.tp_ground_joins.specs.Checks.{has_row}
use Rattle.tp_ground_joins.specs.Facts.{keyed_row}
use Rattle.tp_ground_joins.proofs.levels.add_rows.Given as goal

abbrev pub invariant-loop-row : goal.invariant-loop-row
invariant-loop-row l = record {
  columns : l.check.columns ≡ l.initial.check.columns;
  places : l.check.places ≡ l.initial.check.places;
  added : AllByRecursion (λ r. has_row l.check r ≡ true) (map keyed_row (take l.row-index l.rows));
}
