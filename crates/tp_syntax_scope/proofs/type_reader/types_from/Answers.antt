use Rattle.std.proofs.Common.{List, map, refl, string_bytes, ap, sym, ◌∙◌}
use Rattle.std.specs.Option.{is_some}
use Rattle.tp_syntax_ast.specs.Symbols.{Parent, parent_view}
use Rattle.tp_syntax_ast.specs.TypedLists.{has_twice}
use Rattle.tp_syntax_ast.specs.Domains.{no_cycle}
use Rattle.tp_syntax_ast.specs.declared.types.TypeName.{TypeName}
use Rattle.tp_syntax_types.proofs.OnTables.{map_twice, some_twice, none_twice}
use Rattle.tp_syntax_scope.proofs.OnRowViews.{parent_rows}
use Rattle.tp_syntax_scope.proofs.OnTypes.{types_twice, types_made}
use Rattle.tp_syntax_scope.proofs.type_reader.types_from.Goals as goal

pub returns-in-Some : goal.returns-in-Some
returns-in-Some c =
    let ts = c.args.listed.now in
    types_twice (map parent_view ts)
    (ap has_twice (map_twice (λ (p : Parent). p.name) parent_view ts) ∙ some_twice (λ (t : TypeName). string_bytes t.name) ts ts c.in_ok-number.field-0 _ c.in_ok-number.ensures refl c.in-Some.is)

pub returns : goal.returns
returns c =
    let ts = c.args.listed.now in
    types_made (map parent_view ts) (map parent_view c.in_ok-types.field-0.types.items)
    (ap has_twice (map_twice (λ (p : Parent). p.name) parent_view ts) ∙ none_twice (λ (t : TypeName). string_bytes t.name) ts ts c.in_ok-number.field-0 c.in_ok-number.ensures refl c.in_default.is)
    (sym c.object_is_highest.ensures ∙ c.if-not-object_is_highest.false)
    c.in_ok-types.ensures.types
    (ap (λ (us : List TypeName). no_cycle (map parent_view us)) (sym c.deref.ensures.value) ∙ sym c.in_ok-are_straight.ensures ∙ c.if-not-branch.false)

pub invariant_of-result : goal.invariant_of-result
invariant_of-result c = parent_rows _ _ c.in_ok-types.ensures.marks
