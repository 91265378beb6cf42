use Rattle.std.proofs.Common.{sym, ◌∙◌, true≢false}
use Rattle.tp_syntax_scope.proofs.OnTypes.{not_true_is}
use Rattle.tp_syntax_scope.proofs.OnRowViews.{goes_past, keeps, kept_same, none_kept, all_kept, parent_rows}
use Rattle.tp_syntax_scope.proofs.type_reader.without_object.Goals as goal
use Rattle.tp_syntax_scope.proofs.type_reader.without_object.Goals.{then-is_object, else-is_object+in_ok-push_type, then-is_marked, else-is_marked}

pub loop-place-init : goal.loop-place-init
loop-place-init c = none_kept c.args.listed.now _ c.new.ensures.items c.new-2.ensures.items

pub loop-place-preserved : goal.loop-place-preserved
loop-place-preserved c = elim c.if-is_object.branch [
  | then-is_object w ↦ kept_same _ _ _ _ _ _ w.rows-is w.passed-is (goes_past c.args.listed.now c.loop-place.place c.index-listed-place.result c.loop-place-test.true c.index-listed-place.is c.loop-place.rows c.loop-place.passed c.loop-place.invariant (sym c.is_object.ensures ∙ w.if-is_object.true))
  | else-is_object+in_ok-push_type w ↦ kept_same _ _ _ _ _ _ w.rows-is w.passed-is (keeps c.args.listed.now c.loop-place.place c.index-listed-place.result c.loop-place-test.true c.index-listed-place.is c.loop-place.rows c.loop-place.passed c.loop-place.invariant c.args.marks.now w.push_type.new.rows w.if-is_marked.push_type (parent_rows _ _ c.requires) (sym c.is_object.ensures ∙ w.if-is_object.false)
      (λ mark. elim w.if-is_marked.branch [
        | then-is_marked v ↦ (sym w.is_marked.ensures ∙ v.if-is_marked.true, not_true_is _ (sym v.push_type-is ∙ mark))
        | else-is_marked v ↦ absurd (true≢false (sym mark ∙ v.push_type-is ∙ v.if-is_marked.false))
      ])
      w.in_ok-push_type.ensures.types w.in_ok-push_type.ensures.marks)
]

pub returns-clause-types : goal.returns-clause-types
returns-clause-types c = all_kept c.args.listed.now c.loop-place.place _ _ c.loop-place-test.false c.loop-place.invariant
