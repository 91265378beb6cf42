use Rattle.std.proofs.Common.{map, take}
use Rattle.tp_syntax_ast.specs.DomainViews.{initial_view}
use Rattle.tp_ground.specs.Initially.{initial_in, named_initial, of_initial}
use Rattle.tp_ground_bodies.proofs.OnLowered.{AllLowered}
use Rattle.tp_ground.proofs.beginning.entries.Given as goal

abbrev pub invariant-loop-one : goal.invariant-loop-one
invariant-loop-one l = AllLowered named_initial of_initial l.fn.numbering l.numbering l.lowered (map (λ i. initial_in (initial_view i)) (take l.one-index l.said))
