use Rattle.std.proofs.Common.{◌≡◌, ◌+◌, length}
use Rattle.tp_ground_bindings.specs.Left.{rows_left}
use Rattle.tp_ground.proofs.grounding.left_behind.Given as goal

abbrev pub invariant-rows : goal.invariant-rows
invariant-rows l = l.left + length (rows_left l.initial.rows) ≡ l.most + length (rows_left l.rows)

abbrev pub decreases-rows : goal.decreases-rows
decreases-rows l = length (rows_left l.rows)
