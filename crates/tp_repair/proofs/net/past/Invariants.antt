use Rattle.std.proofs.Common.{◌≡◌, ℕ, ◌<◌, ◌≤◌, length}
use Rattle.tp_net.specs.Arcs.{name_at, past_name}
use Rattle.tp_repair.proofs.net.past.Given as goal

abbrev pub invariant-loop-k : goal.invariant-loop-k
invariant-loop-k l = record {
  len : length l.reason.edges.items ≡ length l.fn.reason.edges.items;
  done : (j : ℕ) → j < l.k → name_at l.reason.edges.items j ≡ past_name l.e (name_at l.fn.reason.edges.items j);
  left : (j : ℕ) → l.k ≤ j → name_at l.reason.edges.items j ≡ name_at l.fn.reason.edges.items j;
}
