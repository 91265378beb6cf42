use Rattle.std.proofs.Common.{◌≡◌, drop, map}
use Rattle.tp_syntax_ast.specs.DomainViews.{action_view}
use Rattle.tp_ground_laws.specs.Needed.{is_added}
use Rattle.tp_ground_joins.proofs.needed.are_added.Given as goal

abbrev pub invariant-loop-action : goal.invariant-loop-action
invariant-loop-action l = is_added (map action_view (drop l.action-index l.actions)) l.name ≡ is_added (map action_view l.actions) l.name
