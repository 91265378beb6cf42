use Rattle.std.proofs.Common.{◌≡◌, drop}
use Rattle.std.specs.List.{list_any}
use Rattle.tp_syntax_ast.specs.DomainViews.{action_view}
use Rattle.tp_ground.specs.Great.{great_body}
use Rattle.tp_ground.proofs.numbers.some_action_is_great.Given as goal

abbrev pub invariant-loop-action : goal.invariant-loop-action
invariant-loop-action l = list_any (λ a. great_body (action_view a).body) (drop l.action-index l.actions) ≡ list_any (λ a. great_body (action_view a).body) l.actions
