use Rattle.std.proofs.Common.{List, ◌++◌, map, filter, sym, ap, ◌∙◌, append-nil}
use Rattle.tp_syntax_ast.specs.Symbols.{Name, typed_view}
use Rattle.tp_syntax_ast.specs.DomainViews.{action_view}
use Rattle.tp_syntax_ast.specs.declared.symbols.Typed.{Typed}
use Rattle.tp_task.specs.Words.{has_words}
use Rattle.tp_ground_bindings.specs.Bindings.{bindings, choices}
use Rattle.tp_ground_bindings.specs.Rows.{Names, product, names_of, lists_of}
use Rattle.tp_ground_bindings.specs.Views.{universe_view}
use Rattle.tp_ground_bindings.proofs.OnRows.{rows_bindings}
use Rattle.tp_ground.specs.Instances.{instance_view}
use Rattle.tp_ground_named.specs.Picks.{row_words}
use Rattle.tp_ground_named.proofs.OnPicks.{none_asked}
use Rattle.tp_ground_named.proofs.OnChosen.{bound_to}
use Rattle.tp_ground_named.proofs.instances.push_bound.Goals as goal

pub returns-then-is_empty : goal.returns-then-is_empty
returns-then-is_empty c =
    let a = action_view c.args.action.now in
    sym (
    ap (λ (rs : List (List Name)). map instance_view c.args.into.now.items ++ map (bound_to a) rs)
    (none_asked c.args.rows.now (bindings (universe_view c.args.universe.now) a.parameters) (sym c.is_empty.ensures ∙ c.if-is_empty.true))
    ∙ append-nil (map instance_view c.args.into.now.items)
    )

pub returns : goal.returns
returns c =
    let a = action_view c.args.action.now in
    let u = universe_view c.args.universe.now in
    let asked = has_words (map row_words c.args.rows.now) in
    c.in_ok-push_instances.ensures
    ∙ ap (λ (rs : List (List Name)). map instance_view c.args.into.now.items ++ map (bound_to a) rs)
    (ap (map names_of) c.as_slice-chosen.ensures.value
    ∙ c.in_ok-picked.ensures
    ∙ ap (λ (ls : List Names). filter asked (product (lists_of ls))) c.as_slice-names.ensures.value
    ∙ ap (λ (ls : List (List Name)). filter asked (product ls)) c.in_ok-lists.ensures
    ∙ ap (λ (vs : List Typed). filter asked (product (map (choices u) (map typed_view vs)))) c.as_slice-variables.ensures
    ∙ ap (filter asked) (rows_bindings u a.parameters))
