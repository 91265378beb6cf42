use Rattle.std.proofs.Common.{sym, ◌∙◌}
use Rattle.tp_syntax_ast.specs.Symbols.{typed_view}
use Rattle.tp_syntax_ast.specs.Domains.{object, type_below}
use Rattle.tp_syntax_ast.specs.declared.symbols.Typed.{Typed}
use Rattle.tp_syntax_types.proofs.OnRows.{as_before, last_taken, made_more, made_all}
use Rattle.tp_syntax_types.proofs.OnTables.{map_twice}
use Rattle.tp_syntax_scope.proofs.OnRowViews.{parent_below, rows_below, pushed_views}
use Rattle.tp_syntax_scope.proofs.type_reader.types_below.Goals as goal

pub parent_in_row-requires : goal.parent_in_row-requires
parent_in_row-requires c = λ mark.
    c.loop-place.invariant.last ∙ as_before parent_below c.args.rows.now object c.args.items.now c.loop-place.place _ (rows_below _ _ c.requires) (sym c.is_marked.ensures ∙ mark) c.loop-place-test.true c.index-items-place.is

pub loop-place-preserved : goal.loop-place-preserved
loop-place-preserved c = record {
  types = made_more (λ (i : Typed). type_below (typed_view i)) c.args.items.now c.loop-place.place c.index-items-place.result _ _ _ c.loop-place-test.true c.index-items-place.is c.in_ok-type_below.ensures c.loop-place.invariant.types (pushed_views _ _ _ c.in_ok-push.ensures.items);
  last = c.in_ok-parent-2.ensures ∙ sym (last_taken parent_below object c.args.items.now c.loop-place.place _ c.loop-place-test.true c.index-items-place.is);
}

pub returns : goal.returns
returns c = made_all (λ (i : Typed). type_below (typed_view i)) c.args.items.now c.loop-place.place _ c.loop-place-test.false c.loop-place.invariant.types ∙ sym (map_twice type_below typed_view c.args.items.now)
