use Rattle.std.proofs.Common.{◌∙◌}
use Rattle.tp_text.specs.Shapes.{Shape}
use Rattle.tp_syntax_scope.specs.SymbolViews.{symbols_view}
use Rattle.tp_syntax_ast.specs.DomainViews.{initial_view}
use Rattle.tp_syntax_ast.specs.Problems.{initial_at}
use Rattle.tp_syntax_ast.proofs.OnGives.{gives_same}
use Rattle.tp_syntax_ast.proofs.OnLists.{a_word, empty_list, list_first, word_first}
use Rattle.tp_syntax.proofs.OnProblems.{initial_word, initial_nothing, initial_lists, initial_name}
use Rattle.tp_syntax.proofs.initial.initial_at.Goals as goal

pub returns-in-Word : goal.returns-in-Word
returns-in-Word c =
    let σ = symbols_view c.args.symbols.now in
    let f = λ (s : Shape). initial_at σ s in
    a_word f _ _ c.in-Word.is ∙ initial_word σ _

pub returns-in_default : goal.returns-in_default
returns-in_default c =
    let σ = symbols_view c.args.symbols.now in
    let f = λ (s : Shape). initial_at σ s in
    empty_list f _ _ _ c.as_slice.result.now c.in-List.is c.as_slice.ensures.value c.in_default.len_below ∙ initial_nothing σ

pub returns-in_default-first : goal.returns-in_default-first
returns-in_default-first c =
    let σ = symbols_view c.args.symbols.now in
    let f = λ (s : Shape). initial_at σ s in
    list_first f _ _ _ c.as_slice.result.now c.first-item.result _ _ c.in-List.is c.as_slice.ensures.value c.in-len1-up.len_at_least c.first-item.is c.in_default-first.is ∙ initial_lists σ _ _

pub returns : goal.returns
returns c =
    let σ = symbols_view c.args.symbols.now in
    let f = λ (s : Shape). initial_at σ s in
    gives_same initial_view _ _ _ (word_first f _ _ _ c.as_slice.result.now c.first-item.result _ c.in-List.is c.as_slice.ensures.value c.in-len1-up.len_at_least c.first-item.is c.in-Word-first.is ∙ initial_name σ _ _) c.initial_list.ensures
