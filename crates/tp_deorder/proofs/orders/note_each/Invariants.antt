-- What is found so far, and what the events that are left give, is all.
use Rattle.std.proofs.Common.{◌≡◌, ◌++◌, drop}
use Rattle.tp_deorder.specs.Kept.{kept_orders, is_told}
use Rattle.tp_deorder.proofs.orders.note_each.Given as goal

abbrev pub invariant-loop-a : goal.invariant-loop-a
invariant-loop-a l = l.bounds.items ++ kept_orders (is_told l.rows) l.events (drop l.a-index l.events) ≡ l.initial.bounds.items ++ kept_orders (is_told l.rows) l.events l.events
