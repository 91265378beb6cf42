use Rattle.std.proofs.Common.{◌≡◌, ◌++◌, length, map}
use Rattle.tp_syntax_ast.specs.DomainViews.{action_view}
use Rattle.tp_ground_bindings.specs.Left.{rows_left}
use Rattle.tp_ground.specs.Instances.{instance_view}
use Rattle.tp_ground.proofs.OnInstances.{bound_to}
use Rattle.tp_ground.proofs.instances.push_rows.Given as goal

abbrev pub invariant-rows : goal.invariant-rows
invariant-rows l = map instance_view l.into.items ++ map (bound_to (action_view l.action)) (rows_left l.rows) ≡ map instance_view l.initial.into.items ++ map (bound_to (action_view l.action)) (rows_left l.initial.rows)

abbrev pub decreases-rows : goal.decreases-rows
decreases-rows l = length (rows_left l.rows)
