use Rattle.std.proofs.Common.{refl}
use Rattle.tp_syntax_ast.specs.CondViews.{cond_view}
use Rattle.tp_ground_bindings.specs.Views.{universe_view}
use Rattle.tp_ground_bodies.proofs.OnLowered.{failed}
use Rattle.tp_ground_named.specs.Named.{named_ends}
use Rattle.tp_ground_named.proofs.OnEnds.{entries_stopped, goal_stopped, ends_lowered}
use Rattle.tp_ground_named.proofs.named.lower_ends.Goals as goal

pub returns-in_err-entries : goal.returns-in_err-entries
returns-in_err-entries c = failed named_ends _ _ _ _ _ _ c.from_residual.ensures.1 (entries_stopped (universe_view c.args.universe.now) c.args.initial.now (cond_view c.args.goal.now) c.args.numbering.now _ c.in_err-entries.ensures)

pub returns-in_err-goal : goal.returns-in_err-goal
returns-in_err-goal c = failed named_ends _ _ _ _ _ _ c.from_residual-in_err-goal.ensures.1 (goal_stopped (universe_view c.args.universe.now) c.args.initial.now (cond_view c.args.goal.now) c.args.numbering.now _ _ c.in_ok-entries.ensures.notes c.in_err-goal.ensures)

pub returns : goal.returns
returns c = ends_lowered (universe_view c.args.universe.now) c.args.initial.now (cond_view c.args.goal.now) _ _ _ _ _ _ refl c.in_ok-entries.ensures c.in_ok-goal.ensures
