use Rattle.tp_syntax_ast.specs.DomainViews.{action_view, initial_view}
use Rattle.tp_ground.specs.Great.{great_body, great_initial}
use Rattle.tp_ground.proofs.OnGreat.{any_seen, or_first, or_second}
use Rattle.tp_ground.proofs.numbers.has_great_number.Goals as goal

pub returns-then-some_action_is_great : goal.returns-then-some_action_is_great
returns-then-some_action_is_great c =
    or_first _ _ _ (any_seen (λ a. great_body a.body) action_view c.deref.result.now c.args.domain.now.actions.items _ c.deref.ensures.value c.some_action_is_great.ensures) c.if-some_action_is_great.true

pub returns-then-some_initial_is_great : goal.returns-then-some_initial_is_great
returns-then-some_initial_is_great c =
    or_second _ _ _ _ (any_seen (λ a. great_body a.body) action_view c.deref.result.now c.args.domain.now.actions.items _ c.deref.ensures.value c.some_action_is_great.ensures) c.if-some_action_is_great.false
    (or_first _ _ _ (any_seen great_initial initial_view c.deref-else-some_action_is_great.result.now c.args.problem.now.initial.items _ c.deref-else-some_action_is_great.ensures.value c.some_initial_is_great.ensures) c.if-some_initial_is_great.true)

pub returns-else-some_initial_is_great : goal.returns-else-some_initial_is_great
returns-else-some_initial_is_great c =
    or_second _ _ _ _ (any_seen (λ a. great_body a.body) action_view c.deref.result.now c.args.domain.now.actions.items _ c.deref.ensures.value c.some_action_is_great.ensures) c.if-some_action_is_great.false
    (or_second _ _ _ _ (any_seen great_initial initial_view c.deref-else-some_action_is_great.result.now c.args.problem.now.initial.items _ c.deref-else-some_action_is_great.ensures.value c.some_initial_is_great.ensures) c.if-some_initial_is_great.false c.condition_is_great.ensures)
