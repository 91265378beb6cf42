use Rattle.std.proofs.Common.{map, take}
use Rattle.tp_syntax_ast.specs.DomainViews.{action_view, initial_view}
use Rattle.tp_ground_bindings.specs.Views.{universe_view}
use Rattle.tp_ground.specs.Instances.{instance_view}
use Rattle.tp_ground_joins.specs.Candidates.{HasAllOf}
use Rattle.tp_ground_joins.proofs.candidates.candidates.Given as goal

abbrev pub invariant-loop-action : goal.invariant-loop-action
invariant-loop-action l = HasAllOf (universe_view l.universe) (map action_view l.actions) (map initial_view l.entries) (map action_view (take l.action-index l.actions)) (map instance_view l.all.items)
