-- The rows so far are those of the events so far.
use Rattle.std.proofs.Common.{◌≡◌, map, take}
use Rattle.tp_deorder.specs.Kept.{marks_of, rows_of}
use Rattle.tp_deorder.proofs.marks.table_by.Given as goal

abbrev pub invariant-loop-b : goal.invariant-loop-b
invariant-loop-b l = rows_of l.rows.items ≡ map (marks_of l.events) (take l.b-index l.events)
