use Rattle.std.proofs.Common.{◌≡◌, take}
use Rattle.tp_search.specs.Rows.{free_after}
use Rattle.tp_search.specs.Sides.{AreSidesOf}
use Rattle.tp_search.proofs.rows.free_of.Given as goal

abbrev pub invariant-loop-candidate : goal.invariant-loop-candidate
invariant-loop-candidate l = AreSidesOf l.task l.action l.sides → l.free.items ≡ free_after l.task (take l.candidate-index l.candidates) l.action
