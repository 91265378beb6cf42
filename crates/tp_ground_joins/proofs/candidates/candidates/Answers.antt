use Rattle.std.proofs.Common.{map}
use Rattle.tp_syntax_ast.specs.DomainViews.{action_view, initial_view}
use Rattle.tp_ground_bindings.specs.Views.{universe_view}
use Rattle.tp_ground.specs.Instances.{instance_view}
use Rattle.tp_ground_joins.proofs.OnCandidates.{more_candidates}
use Rattle.tp_ground_joins.proofs.candidates.candidates.Goals as goal

pub loop-action-preserved : goal.loop-action-preserved
loop-action-preserved c =
    let p = c.in_ok-push_candidates.ensures in
    more_candidates (universe_view c.args.universe.now) (map action_view c.args.actions.now) (map initial_view c.args.entries.now) c.args.actions.now c.loop-action.action-index c.action-item.result
    (map instance_view c.loop-action.all.items) (map instance_view c.push_candidates.new.into.items) p.0 c.loop-action-test.true c.action-item.is c.loop-action.invariant p.1 p.2
