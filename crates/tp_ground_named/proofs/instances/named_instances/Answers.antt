use Rattle.std.proofs.Common.{ℕ, List, Bor, ◌++◌, map, filter, take, sym, ap, ◌∙◌}
use Rattle.std.specs.List.{flat_map}
use Rattle.std.proofs.lemmas.List.{take_all}
use Rattle.tp_syntax_ast.specs.Symbols.{Name}
use Rattle.tp_syntax_ast.specs.DomainViews.{action_view}
use Rattle.tp_task.specs.Words.{Words, has_words}
use Rattle.tp_ground_bindings.specs.Bindings.{bindings}
use Rattle.tp_ground_bindings.specs.Views.{universe_view}
use Rattle.tp_ground_bindings.proofs.Along.{next}
use Rattle.tp_ground.specs.Reached.{Instance}
use Rattle.tp_ground_named.specs.Picks.{tails, row_words}
use Rattle.tp_ground_named.specs.Named.{chosen_of}
use Rattle.tp_ground_named.proofs.OnChosen.{bound_to, chosen_for, chosen_all}
use Rattle.tp_ground_named.proofs.instances.named_instances.Goals as goal

pub loop-action-preserved : goal.loop-action-preserved
loop-action-preserved c =
    let u = universe_view c.args.universe.now in
    let xs = c.args.actions.now in
    let i = c.loop-action.action-index in
    let x = c.action-item.result in
    let asked = map row_words c.in_ok-rows.rows.items in
    c.in_ok-push_bound.ensures
    ∙ ap (λ (is : List Instance). is ++ map (bound_to (action_view x)) (filter (has_words (map row_words c.as_slice-behind.result.now)) (bindings u (action_view x).parameters))) c.loop-action.invariant
    ∙ ap (λ (ts : List Words). flat_map (chosen_for u asked) (take i xs) ++ map (bound_to (action_view x)) (filter (has_words ts) (bindings u (action_view x).parameters)))
    (ap (map row_words) c.as_slice-behind.ensures.value ∙ c.in_ok-tails.ensures ∙ c.in_ok-groups.ensures _ ∙ ap (λ (n : Name). tails n (map row_words c.as_slice-lent.result.now)) c.as_str.ensures.value ∙ ap (λ (rs : List (Bor (List (Bor (List ℕ))))). tails (action_view x).name (map row_words rs)) c.as_slice-lent.ensures.value)
    ∙ sym (next (chosen_for u asked) xs i x c.loop-action-test.true c.action-item.is)

pub returns : goal.returns
returns c =
    let u = universe_view c.args.universe.now in
    let xs = c.args.actions.now in
    let asked = map row_words c.in_ok-rows.rows.items in
    c.loop-action.invariant
    ∙ ap (flat_map (chosen_for u asked)) (take_all c.loop-action.action-index xs c.loop-action-test.false)
    ∙ chosen_all u asked xs
    ∙ ap (chosen_of u (map action_view xs)) c.in_ok-rows.ensures
