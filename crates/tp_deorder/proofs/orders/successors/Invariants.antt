-- What is found so far, and what is left to find, is all.
use Rattle.std.proofs.Common.{◌≡◌, ◌++◌, drop}
use Rattle.tp_deorder.specs.Kept.{successors, is_told}
use Rattle.tp_deorder.proofs.orders.successors.Given as goal

abbrev pub invariant-loop-b : goal.invariant-loop-b
invariant-loop-b l = l.found.items ++ successors (is_told l.rows) (drop l.b-index l.events) l.a ≡ successors (is_told l.rows) l.events l.a
