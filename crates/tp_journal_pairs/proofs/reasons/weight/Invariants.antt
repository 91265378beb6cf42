use Rattle.tp_exec_machine.specs.Step.{asked}
use Rattle.std.proofs.Common.{◌≡◌, ◌*◌, drop}
use Rattle.std.specs.Prelude.{pos, ◌+ℤ◌, ◌≤ℤ◌}
use Rattle.tp_bounds.specs.Reasons.{weight_of}
use Rattle.tp_bounds.specs.Certificates.{bounds_of}
use Rattle.tp_journal_pairs.proofs.reasons.weight.Given as goal

-- a weight is an i64, so the sum of k of them is at most 2 ^ 63 * k either way
abbrev pub invariant-loop-edge : goal.invariant-loop-edge
invariant-loop-edge g l = record {
  total : weight_of (bounds_of (asked l.executive l.command) l.edges) ≡ l.sum +ℤ weight_of (bounds_of (asked l.executive l.command) (drop l.edge-index l.edges));
  high : l.sum ≤ℤ pos (9223372036854775808 * l.edge-index);
  low : pos 0 ≤ℤ (l.sum +ℤ pos (9223372036854775808 * l.edge-index));
}
