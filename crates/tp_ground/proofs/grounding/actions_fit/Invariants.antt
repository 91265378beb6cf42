use Rattle.std.proofs.Common.{◌≡◌, map, drop, length, nat_le}
use Rattle.tp_syntax_ast.specs.DomainViews.{action_view}
use Rattle.tp_ground_bindings.specs.Views.{universe_view}
use Rattle.tp_ground.specs.Grounding.{ground_actions}
use Rattle.tp_ground.proofs.grounding.actions_fit.Given as goal

abbrev pub invariant-loop-action : goal.invariant-loop-action
invariant-loop-action l = nat_le (length (ground_actions (universe_view l.universe) (map action_view (drop l.action-index l.actions)))) l.left ≡ nat_le (length (ground_actions (universe_view l.universe) (map action_view l.actions))) l.most
