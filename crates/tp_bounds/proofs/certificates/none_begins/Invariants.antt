use Rattle.std.proofs.Common.{◌≢◌, drop}
use Rattle.std.specs.List.{AllByRecursion}
use Rattle.tp_bounds.specs.Certificates.{bounds_of}
use Rattle.tp_bounds.proofs.certificates.none_begins.Given as goal

abbrev pub invariant-loop-edge : goal.invariant-loop-edge
invariant-loop-edge l = record {
  whole : AllByRecursion (λ b. l.point ≢ b.from) (bounds_of l.setting (drop l.edge-index l.edges)) → AllByRecursion (λ b. l.point ≢ b.from) (bounds_of l.setting l.edges);
  rest : AllByRecursion (λ b. l.point ≢ b.from) (bounds_of l.setting l.edges) → AllByRecursion (λ b. l.point ≢ b.from) (bounds_of l.setting (drop l.edge-index l.edges));
}
