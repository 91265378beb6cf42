use Rattle.std.proofs.Common.{◌∙◌}
use Rattle.tp_text.specs.Shapes.{Shape}
use Rattle.tp_syntax_scope.specs.Fits.{signatures_of}
use Rattle.tp_syntax_scope.specs.ScopeViews.{scope_view, symbols_of}
use Rattle.tp_syntax_ast.specs.Terms.{atom_view}
use Rattle.tp_syntax_ast.specs.Effects.{atom_at}
use Rattle.tp_syntax_ast.proofs.OnGives.{gives_same}
use Rattle.tp_syntax_ast.proofs.OnLists.{a_word, empty_list, list_first, word_first}
use Rattle.tp_syntax_bodies.proofs.OnEffects.{at_word, at_nothing, at_list, at_name}
use Rattle.tp_syntax_bodies.proofs.effect.atom_at.Goals as goal

pub returns-in-Word : goal.returns-in-Word
returns-in-Word c =
    let σ = symbols_of c.args.scope.now in
    let f = λ (s : Shape). atom_at σ (signatures_of c.args.kind (symbols_of c.args.scope.now)) (scope_view c.args.scope.now) s in
    a_word f _ _ c.in-Word.is ∙ at_word σ _ _ _

pub returns-in_default : goal.returns-in_default
returns-in_default c =
    let σ = symbols_of c.args.scope.now in
    let f = λ (s : Shape). atom_at σ (signatures_of c.args.kind (symbols_of c.args.scope.now)) (scope_view c.args.scope.now) s in
    empty_list f _ _ _ c.as_slice.result.now c.in-List.is c.as_slice.ensures.value c.in_default.len_below ∙ at_nothing σ _ _

pub returns-in_default-first : goal.returns-in_default-first
returns-in_default-first c =
    let σ = symbols_of c.args.scope.now in
    let f = λ (s : Shape). atom_at σ (signatures_of c.args.kind (symbols_of c.args.scope.now)) (scope_view c.args.scope.now) s in
    list_first f _ _ _ c.as_slice.result.now c.first-item.result _ _ c.in-List.is c.as_slice.ensures.value c.in-len1-up.len_at_least c.first-item.is c.in_default-first.is ∙ at_list σ _ _ _ _

pub returns : goal.returns
returns c =
    let σ = symbols_of c.args.scope.now in
    let f = λ (s : Shape). atom_at σ (signatures_of c.args.kind (symbols_of c.args.scope.now)) (scope_view c.args.scope.now) s in
    gives_same atom_view _ _ _ (word_first f _ _ _ c.as_slice.result.now c.first-item.result _ c.in-List.is c.as_slice.ensures.value c.in-len1-up.len_at_least c.first-item.is c.in-Word-first.is ∙ at_name σ _ _ _ _) c.atom_in.ensures
