use Rattle.std.proofs.Common.{◌∙◌}
use Rattle.tp_syntax.specs.KeyedParts.{part_of}
use Rattle.tp_syntax_ast.proofs.OnGives.{fails_with}
use Rattle.tp_syntax_ast.proofs.OnLists.{a_word, empty_list, list_first, word_first}
use Rattle.tp_syntax.proofs.OnKeyed.{at_word, at_nothing, at_list, at_kind}
use Rattle.tp_syntax.proofs.keyed.part_at.Goals as goal

pub returns-in-Word : goal.returns-in-Word
returns-in-Word g c =
    let f = part_of g.K.SectionWord.kind_of in
    a_word f _ _ c.in-Word.is ∙ at_word g.K.SectionWord.kind_of _

pub returns-in_default : goal.returns-in_default
returns-in_default g c =
    let f = part_of g.K.SectionWord.kind_of in
    empty_list f _ _ _ c.as_slice.result.now c.in-List.is c.as_slice.ensures.value c.in_default.len_below ∙ at_nothing g.K.SectionWord.kind_of

pub returns-in_default-first : goal.returns-in_default-first
returns-in_default-first g c =
    let f = part_of g.K.SectionWord.kind_of in
    list_first f _ _ _ c.as_slice.result.now c.first-item.result _ _ c.in-List.is c.as_slice.ensures.value c.in-len1-up.len_at_least c.first-item.is c.in_default-first.is ∙ at_list g.K.SectionWord.kind_of _ _

pub returns-in_default-kind_of : goal.returns-in_default-kind_of
returns-in_default-kind_of g c =
    let f = part_of g.K.SectionWord.kind_of in
    fails_with c.fault.result _
    (word_first f _ _ _ c.as_slice.result.now c.first-item.result _ c.in-List.is c.as_slice.ensures.value c.in-len1-up.len_at_least c.first-item.is c.in-Word-first.is
    ∙ at_kind g.K.SectionWord.kind_of _ _ _ c.in_default-kind_of.ensures)

pub returns : goal.returns
returns g c =
    let f = part_of g.K.SectionWord.kind_of in
    word_first f _ _ _ c.as_slice.result.now c.first-item.result _ c.in-List.is c.as_slice.ensures.value c.in-len1-up.len_at_least c.first-item.is c.in-Word-first.is
    ∙ at_kind g.K.SectionWord.kind_of _ _ _ c.in-Some.ensures
