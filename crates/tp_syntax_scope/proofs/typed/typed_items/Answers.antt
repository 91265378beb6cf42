use Rattle.std.proofs.Common.{List, String, Global, map, string_bytes, refl, ap, sym, ◌∙◌}
use Rattle.std.proofs.lemmas.List.{map-append}
use Rattle.std.proofs.lemmas.Result.{err_from_is_err_and}
use Rattle.tp_syntax_ast.specs.Symbols.{typed_view}
use Rattle.tp_syntax_scope.proofs.OnTypedLists.{begins, item_fails, item_goes_on, dash_last, dash_fails, dash_goes_on, over, some_names}
use Rattle.std.proofs.Common.{◌&&◌}
use Rattle.std.specs.List.{list_all}
use Rattle.tp_syntax_ast.specs.declared.symbols.Typed.{Typed}
use Rattle.tp_syntax_ast.specs.TypedLists.{is_type}
use Rattle.tp_syntax_types.specs.TypeViews.{types_view}
use Rattle.tp_syntax_scope.proofs.OnRowViews.{no_rows, share_types}
use Rattle.tp_syntax_scope.proofs.OnDeclared.{all_declared, run_declared, last_declared}
use Rattle.tp_syntax_scope.proofs.typed.typed_items.Goals as goal

pub runs-init : goal.runs-init
runs-init c = record {
  items = begins c.args.items _ _ _ (ap (map typed_view) c.new-done.ensures.items) (ap (map string_bytes) c.new-waiting.ensures.items);
  declared = ap (λ (ds : List Typed). all_declared (types_view c.args.types.now) (map typed_view ds)) (sym c.new-done.ensures.items);
  rows = no_rows _ _ c.new-rows.ensures.items (ap (map typed_view) c.new-done.ensures.items);
}

pub returns-in_default-others-clause-items : goal.returns-in_default-others-clause-items
returns-in_default-others-clause-items c =
    dash_last c.args.items _ _ c.runs.rest.now c.first-item.result _ c.in-len1-up.len_at_least c.first-item.is c.runs.invariant.items
    (sym c.is_dash.ensures ∙ c.if-is_dash.true) (some_names c.args.items c.runs.waiting c.if-is_empty.ensures) c.in_default-others.len_below

pub returns-in_err-kinds-clause-items : goal.returns-in_err-kinds-clause-items
returns-in_err-kinds-clause-items c =
    let p = err_from_is_err_and c.from_residual.result c.from_residual.ensures.1 in
    rw (p.1, p.2) (dash_fails c.args.items _ _ c.runs.rest.now c.first-item.result _ c.in-len1-up.len_at_least c.first-item.is c.runs.invariant.items c.in_err-kinds.field-0.0 _ c.kind-item.result refl (sym c.is_dash.ensures ∙ c.if-is_dash.true) (some_names c.args.items c.runs.waiting c.if-is_empty.ensures) c.in-len1-up-others.len_at_least c.kind-item.is c.in_err-kinds.ensures)

pub runs-preserved-then-is_dash : goal.runs-preserved-then-is_dash
runs-preserved-then-is_dash c =
    let kinds = map string_bytes c.in_ok-kinds.kinds.items in
    let some = some_names c.args.items c.runs.waiting c.if-is_empty.ensures in
    let grown = c.in_ok-give.ensures.items in
    record {
      items =
          dash_goes_on c.args.items _ _ c.runs.rest.now c.first-item.result _ c.in-len1-up.len_at_least c.first-item.is c.runs.invariant.items _ c.kind-item.result kinds _ _ refl
          (sym c.is_dash.ensures ∙ c.if-is_dash.true) some c.in-len1-up-others.len_at_least c.kind-item.is
          c.in_ok-kinds.ensures grown (ap (map string_bytes) c.new-waiting-then-is_dash.ensures.items);
      declared =
          run_declared (types_view c.args.types.now) kinds (map typed_view c.runs.done.items) _ (map string_bytes c.runs.waiting.items) c.runs.are_declared _ some c.runs.invariant.declared
          (c.declared_too-are_declared.ensures ∙ ap (λ (ss : List (String Global)). c.runs.are_declared && list_all (is_type (types_view c.args.types.now)) (map string_bytes ss)) c.as_slice.ensures.value) grown;
      rows = c.in_ok-give.ensures.rows c.runs.invariant.rows;
    }

pub returns-in_err-item_at-clause-items : goal.returns-in_err-item_at-clause-items
returns-in_err-item_at-clause-items c =
    let p = err_from_is_err_and c.from_residual-in_err-item_at.result c.from_residual-in_err-item_at.ensures.1 in
    rw (p.1, p.2) (item_fails c.args.items _ _ c.runs.rest.now c.first-item.result _ c.in-len1-up.len_at_least c.first-item.is c.runs.invariant.items c.in_err-item_at.field-0.0 (sym c.is_dash.ensures ∙ c.if-is_dash.false) c.in_err-item_at.ensures)

pub runs-preserved : goal.runs-preserved
runs-preserved c = record {
  items =
      item_goes_on c.args.items _ _ c.runs.rest.now c.first-item.result _ c.in-len1-up.len_at_least c.first-item.is c.runs.invariant.items _ _ (sym c.is_dash.ensures ∙ c.if-is_dash.false) c.in_ok-item_at.ensures
      (ap (map string_bytes) c.in_ok-push.ensures.items ∙ map-append string_bytes _ _);
  declared = c.runs.invariant.declared;
  rows = c.runs.invariant.rows;
}

pub returns-clause-items : goal.returns-clause-items
returns-clause-items c = over c.args.items _ _ _ c.runs.rest.now _ c.in_default.len_below c.runs.invariant.items c.in_ok-give_object.ensures.items

pub returns-clause-declared : goal.returns-clause-declared
returns-clause-declared c =
    last_declared (types_view c.args.types.now) (map typed_view c.runs.done.items) _ (map string_bytes c.runs.waiting.items) c.runs.are_declared c.runs.invariant.declared c.in_ok-give_object.ensures.items

pub invariant_of-items : goal.invariant_of-items
invariant_of-items c = share_types _ _ (c.in_ok-give_object.ensures.rows c.runs.invariant.rows)
