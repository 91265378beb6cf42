use Rattle.std.proofs.Common.{map, refl}
use Rattle.tp_syntax_ast.specs.CondViews.{cond_view}
use Rattle.tp_ground_bindings.specs.Views.{universe_view}
use Rattle.tp_ground_bodies.specs.Mentions.{of_each}
use Rattle.tp_ground.specs.Reached.{action_of, of_instance}
use Rattle.tp_ground.specs.Instances.{instance_view}
use Rattle.tp_ground.specs.WrittenTasks.{named_task}
use Rattle.tp_ground_bodies.proofs.OnLowered.{failed}
use Rattle.tp_ground.proofs.OnTasks.{entries_stopped, goal_stopped, actions_stopped, task_lowered}
use Rattle.tp_ground.proofs.tasks.lower_with.Goals as goal

pub returns-in_err-entries : goal.returns-in_err-entries
returns-in_err-entries c = failed named_task _ _ _ _ _ _ c.from_residual.ensures.1 (entries_stopped (universe_view c.args.universe.now) c.args.initial.now (cond_view c.args.goal.now) (of_each (of_instance (universe_view c.args.universe.now)) (map instance_view c.args.some.now)) (map (λ i. (action_of (universe_view c.args.universe.now) i).body) (map instance_view c.args.some.now)) c.args.numbering.now _ c.in_err-entries.ensures)

pub returns-in_err-goal : goal.returns-in_err-goal
returns-in_err-goal c = failed named_task _ _ _ _ _ _ c.from_residual-in_err-goal.ensures.1 (goal_stopped (universe_view c.args.universe.now) c.args.initial.now (cond_view c.args.goal.now) (of_each (of_instance (universe_view c.args.universe.now)) (map instance_view c.args.some.now)) (map (λ i. (action_of (universe_view c.args.universe.now) i).body) (map instance_view c.args.some.now)) c.args.numbering.now _ _ c.in_ok-entries.ensures.notes c.in_err-goal.ensures)

pub returns-in_err-actions : goal.returns-in_err-actions
returns-in_err-actions c = failed named_task _ _ _ _ _ _ c.from_residual-in_err-actions.ensures.1 (actions_stopped (universe_view c.args.universe.now) c.args.initial.now (cond_view c.args.goal.now) (of_each (of_instance (universe_view c.args.universe.now)) (map instance_view c.args.some.now)) (map (λ i. (action_of (universe_view c.args.universe.now) i).body) (map instance_view c.args.some.now)) c.args.numbering.now _ _ _ c.in_ok-entries.ensures.notes c.in_ok-goal.ensures.notes c.in_err-actions.ensures)

pub returns : goal.returns
returns c = task_lowered (universe_view c.args.universe.now) c.args.initial.now (cond_view c.args.goal.now) (of_each (of_instance (universe_view c.args.universe.now)) (map instance_view c.args.some.now)) (map (λ i. (action_of (universe_view c.args.universe.now) i).body) (map instance_view c.args.some.now)) _ _ _ _ _ _ _ _ refl c.in_ok-entries.ensures c.in_ok-goal.ensures c.in_ok-actions.ensures
