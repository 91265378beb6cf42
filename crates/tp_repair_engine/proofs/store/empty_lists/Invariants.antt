use Rattle.std.proofs.Common.{◌≡◌, ℕ, length, []}
use Rattle.tp_repair_engine.specs.Store.{halves_at}
use Rattle.tp_repair_engine.proofs.store.empty_lists.Given as goal

abbrev pub invariant-loop : goal.invariant-loop
invariant-loop l = record {
  len : length l.lists.items ≡ l.counter;
  empty : (y : ℕ) → halves_at l.lists.items y ≡ [];
}
