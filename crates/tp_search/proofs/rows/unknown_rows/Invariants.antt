use Rattle.std.proofs.Common.{◌≡◌, length}
use Rattle.tp_search.specs.Rows.{AreUnknown}
use Rattle.tp_search.proofs.rows.unknown_rows.Given as goal

abbrev pub invariant-loop : goal.invariant-loop
invariant-loop l = record {
  unknown : AreUnknown l.rows.items;
  count : length l.rows.items ≡ l.counter;
}
