use Rattle.std.proofs.Common.{List, map, take, sym, ap, ◌++◌, ◌∙◌}
use Rattle.std.specs.List.{flat_map}
use Rattle.std.proofs.lemmas.List.{take_all}
use Rattle.tp_syntax_ast.specs.Symbols.{Name, typed_view}
use Rattle.tp_syntax_ast.specs.DomainViews.{action_view}
use Rattle.tp_syntax_ast.specs.declared.symbols.Typed.{Typed}
use Rattle.tp_ground_bindings.specs.Bindings.{bindings}
use Rattle.tp_ground_bindings.specs.Left.{rows_left}
use Rattle.tp_ground_bindings.specs.Views.{universe_view}
use Rattle.tp_ground_bindings.proofs.Along.{next}
use Rattle.tp_ground.specs.Reached.{Instance}
use Rattle.tp_ground.proofs.OnInstances.{bound_to, instances_of, all_of}
use Rattle.tp_ground.proofs.instances.all_instances.Goals as goal

pub loop-action-preserved : goal.loop-action-preserved
loop-action-preserved c =
    let u = universe_view c.args.universe.now in
    let xs = c.args.actions.now in
    let x = c.action-item.result in
    let f = bound_to (action_view x) in
    let before = flat_map (instances_of u) (take c.loop-action.action-index xs) in
    c.in_ok-push_rows.ensures
    ∙ ap (λ (is : List Instance). is ++ map f (rows_left c.in_ok-rows.rows)) c.loop-action.invariant
    ∙ ap (λ (ns : List (List Name)). before ++ map f ns) (c.in_ok-rows.ensures ∙ ap (λ (vs : List Typed). bindings u (map typed_view vs)) c.as_slice.ensures)
    ∙ sym (next (instances_of u) xs c.loop-action.action-index x c.loop-action-test.true c.action-item.is)

pub returns : goal.returns
returns c =
    let u = universe_view c.args.universe.now in
    let xs = c.args.actions.now in
    c.loop-action.invariant ∙ ap (flat_map (instances_of u)) (take_all c.loop-action.action-index xs c.loop-action-test.false) ∙ all_of u xs
