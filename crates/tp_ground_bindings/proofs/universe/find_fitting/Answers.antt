use Rattle.std.proofs.Common.{List, Bor, ℕ, ◌++◌, map, string_bytes, ap, ◌∙◌}
use Rattle.tp_syntax_ast.specs.Symbols.{Name, typed_view}
use Rattle.tp_syntax_types.specs.TypeViews.{types_view}
use Rattle.tp_ground_bindings.specs.Bindings.{fitting}
use Rattle.tp_ground_bindings.specs.KnownChoices.{of_types}
use Rattle.tp_ground_bindings.proofs.OnFitting.{all_fitting}
use Rattle.tp_ground_bindings.proofs.universe.find_fitting.Goals as goal

pub returns : goal.returns
returns c =
    let types = types_view c.args.universe.now.types in
    let constants = map typed_view c.args.universe.now.constants.now in
    let objects = map typed_view c.args.universe.now.objects.now in
    let d = of_types (map string_bytes c.args.wanted.now) in
    c.in_ok-push_fitting-2.ensures
    ∙ ap (λ (ns : List Name). ns ++ fitting types objects d)
    (c.in_ok-push_fitting.ensures ∙ ap (λ (ns : List (Bor (List ℕ))). map (λ (o : Bor (List ℕ)). o.now) ns ++ fitting types constants d) c.new-names.ensures.items)
    ∙ all_fitting types constants objects d
