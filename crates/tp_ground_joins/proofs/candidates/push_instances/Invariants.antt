use Rattle.std.proofs.Common.{◌≡◌, ◌++◌, map, take}
use Rattle.tp_syntax_ast.specs.DomainViews.{action_view}
use Rattle.tp_ground_bindings.specs.Rows.{names_of}
use Rattle.tp_ground.specs.Instances.{instance_view}
use Rattle.tp_ground_joins.proofs.OnCandidates.{bound_to}
use Rattle.tp_ground_joins.proofs.candidates.push_instances.Given as goal

abbrev pub invariant-loop-row : goal.invariant-loop-row
invariant-loop-row l = map instance_view l.into.items ≡ map instance_view l.initial.into.items ++ map (bound_to (action_view l.action)) (map names_of (take l.row-index l.rows))
