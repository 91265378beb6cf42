use Rattle.std.proofs.Common.{◌≡◌, take}
use Rattle.std.specs.List.{All}
use Rattle.tp_search.specs.Sides.{IsSide, all_ways, ways_of}
use Rattle.tp_search.proofs.sides.sides_of_event.Given as goal

abbrev pub invariant-loop-way : goal.invariant-loop-way
invariant-loop-way l = record {
  ways : ways_of l.sides.items ≡ take l.way-index all_ways;
  each : All (IsSide l.event) l.sides.items;
}
