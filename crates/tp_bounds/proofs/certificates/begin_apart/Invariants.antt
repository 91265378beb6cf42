use Rattle.std.proofs.Common.{drop}
use Rattle.tp_bounds.specs.Reasons.{BeginApart}
use Rattle.tp_bounds.specs.Certificates.{bounds_of}
use Rattle.tp_bounds.proofs.certificates.begin_apart.Given as goal

abbrev pub invariant-loop-place : goal.invariant-loop-place
invariant-loop-place l = record {
  whole : BeginApart (bounds_of l.setting (drop l.place l.edges)) → BeginApart (bounds_of l.setting l.edges);
  rest : BeginApart (bounds_of l.setting l.edges) → BeginApart (bounds_of l.setting (drop l.place l.edges));
}
