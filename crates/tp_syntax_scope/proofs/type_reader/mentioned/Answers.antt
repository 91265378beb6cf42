use Rattle.std.proofs.Common.{List, ℕ, String, Global, string_bytes, ◌+◌, ◌∷◌, ◌++◌, map, drop, ap, sym, ◌∙◌}
use Rattle.std.proofs.lemmas.List.{at_drop_more}
use Rattle.tp_syntax_ast.specs.Symbols.{parent_view}
use Rattle.tp_syntax_ast.specs.Domains.{object, mentioned}
use Rattle.tp_syntax_types.specs.Among.{has_mark}
use Rattle.tp_syntax_ast.specs.Shared.{parent_in}
use Rattle.tp_syntax_types.proofs.OnRows.{as_before, last_taken}
use Rattle.tp_syntax_scope.specs.SignatureViews.{names_in, to_mention}
use Rattle.tp_syntax_ast.specs.declared.types.TypeName.{TypeName}
use Rattle.tp_syntax_scope.proofs.OnTypes.{from_known, object_known}
use Rattle.tp_syntax_scope.proofs.OnRowViews.{parent_rows}
use Rattle.tp_syntax_scope.proofs.type_reader.mentioned.Goals as goal

pub loop-place-init : goal.loop-place-init
loop-place-init c = record {
  done =
      ap (λ (ts : List TypeName). map parent_view ts ++ mentioned (names_in c.in_ok-known.known) (map parent_view c.args.types.now)) c.new-done.ensures.items
      ∙ from_known c.in_ok-known.known _ c.in_ok-known.ensures (map parent_view c.args.types.now);
  known = object_known c.in_ok-known.known _ c.in_ok-known.ensures;
}

pub mention-requires : goal.mention-requires
mention-requires c = λ mark.
    ap (λ (n : List ℕ). has_mark c.loop-place.known n) (
    c.as_str.ensures.value ∙ ap (λ (s : String Global). string_bytes s) c.deref.ensures
    ∙ sym (as_before parent_in c.args.marks.now object c.args.types.now c.loop-place.place c.index-types-place.result (parent_rows _ _ c.requires) (sym c.is_marked-mark.ensures ∙ mark) c.loop-place-test.true c.index-types-place.is))
    ∙ c.loop-place.invariant.known

pub loop-place-preserved : goal.loop-place-preserved
loop-place-preserved c =
    let left = λ (ts : List TypeName). to_mention c.loop-place.done.items c.loop-place.known (map parent_view ts) in
    record {
      done =
          c.in_ok-mention.ensures.done (parent_view c.index-types-place.result) (map parent_view (drop (c.loop-place.place + 1) c.args.types.now)) (sym (c.as_str.ensures.value ∙ ap (λ (s : String Global). string_bytes s) c.deref.ensures))
          ∙ ap (λ (t : TypeName). left (t ∷ drop (c.loop-place.place + 1) c.args.types.now)) c.index-types-place.is
          ∙ sym (at_drop_more left c.args.types.now c.loop-place.place c.index-types-place.result c.loop-place-test.true)
          ∙ c.loop-place.invariant.done;
      known =
          ap (λ (n : List ℕ). has_mark c.mention.new.known n) (
          last_taken parent_in object c.args.types.now c.loop-place.place c.index-types-place.result c.loop-place-test.true c.index-types-place.is
          ∙ sym (c.as_str.ensures.value ∙ ap (λ (s : String Global). string_bytes s) c.deref.ensures))
          ∙ c.in_ok-mention.ensures.known;
    }
