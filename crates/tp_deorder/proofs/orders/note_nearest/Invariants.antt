-- What is found so far, and what the events that are left give, is all.
use Rattle.std.proofs.Common.{◌≡◌, ◌++◌, drop}
use Rattle.tp_deorder.specs.Kept.{nearest, is_told}
use Rattle.tp_deorder.proofs.orders.note_nearest.Given as goal

abbrev pub invariant-loop-b : goal.invariant-loop-b
invariant-loop-b l = l.bounds.items ++ nearest (is_told l.rows) l.a l.after (drop l.b-index l.after) ≡ l.initial.bounds.items ++ nearest (is_told l.rows) l.a l.after l.after
