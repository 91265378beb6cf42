use Rattle.std.proofs.Common.{◌<◌}
use Rattle.std.specs.List.{AllByRecursion}
use Rattle.tp_search.specs.Possible.{AreCandidates, AreRising, CanBegin}
use Rattle.tp_search.proofs.at_once.push_candidates.Given as goal

abbrev pub invariant-loop-action : goal.invariant-loop-action
invariant-loop-action l = record {
  all : AreCandidates l.task l.action l.found.items;
  no_other : AllByRecursion (CanBegin l.task) l.found.items;
  below : AllByRecursion (λ a. a < l.action) l.found.items;
  rising : AreRising l.found.items;
}
