use Rattle.std.proofs.Common.{List, map, refl, ap, ◌∙◌}
use Rattle.tp_syntax_ast.specs.Symbols.{parent_view, typed_view}
use Rattle.tp_syntax_ast.specs.Domains.{type_below}
use Rattle.tp_syntax_ast.specs.declared.symbols.Typed.{Typed}
use Rattle.tp_syntax_scope.proofs.OnRowViews.{rows_given_below, same_rows, type_rows}
use Rattle.tp_syntax_scope.proofs.type_reader.types_in.Goals as goal

pub types_below-requires : goal.types_below-requires
types_below-requires c =
    same_rows _ _ _ _ refl (ap (λ (xs : List Typed). map type_below (map typed_view xs)) c.as_slice.ensures)
    (rows_given_below _ _ (type_rows _ _ c.marks-marks.ensures))

pub types_from-requires : goal.types_from-requires
types_from-requires c =
    same_rows _ _ _ _ refl (
    ap (map parent_view) c.deref.ensures.value ∙ c.in_ok-listed.ensures ∙ ap (λ (xs : List Typed). map type_below (map typed_view xs)) c.as_slice.ensures)
    (rows_given_below _ _ (type_rows _ _ c.marks-marks.ensures))
