use Rattle.tp_exec_machine.specs.Step.{asked}
use Rattle.std.proofs.Common.{◌≢◌, drop}
use Rattle.std.specs.List.{AllByRecursion}
use Rattle.tp_bounds.specs.Certificates.{bounds_of}
use Rattle.tp_journal_pairs.proofs.reasons.none_begins.Given as goal

abbrev pub invariant-loop-edge : goal.invariant-loop-edge
invariant-loop-edge g l = record {
  whole : AllByRecursion (λ b. l.point ≢ b.from) (bounds_of (asked l.executive l.command) (drop l.edge-index l.edges)) → AllByRecursion (λ b. l.point ≢ b.from) (bounds_of (asked l.executive l.command) l.edges);
  rest : AllByRecursion (λ b. l.point ≢ b.from) (bounds_of (asked l.executive l.command) l.edges) → AllByRecursion (λ b. l.point ≢ b.from) (bounds_of (asked l.executive l.command) (drop l.edge-index l.edges));
}
