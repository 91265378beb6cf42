use Rattle.std.proofs.Common.{◌-◌, Option, length, take, drop, option_map, string_bytes, ap, ◌∙◌}
use Rattle.std.proofs.lemmas.Result.{err_from_is_err_and}
use Rattle.tp_syntax_ast.specs.Gives.{◌>>=◌}
use Rattle.tp_syntax_ast.specs.Terms.{shapes}
use Rattle.tp_syntax_ast.specs.Symbols.{Name}
use Rattle.tp_syntax_types.specs.TypeViews.{types_view}
use Rattle.tp_syntax_ast.specs.TypedLists.{parameters_of}
use Rattle.tp_syntax_ast.specs.Domains.{signature_at}
use Rattle.tp_syntax_ast.proofs.OnGives.{fails_same, fails_bind, fails_map}
use Rattle.tp_syntax_ast.proofs.OnLists.{a_word, empty_list, list_first, word_first}
use Rattle.tp_syntax_scope.proofs.OnSignatures.{at_word, at_nothing, at_list, at_signature, signature_with}
use Rattle.tp_syntax_scope.proofs.signatures.signature_at.Goals as goal

pub returns-in-Word : goal.returns-in-Word
returns-in-Word c = let ts = types_view c.args.types.now in a_word (signature_at ts) _ _ c.in-Word.is ∙ at_word ts _

pub returns-in_default : goal.returns-in_default
returns-in_default c = let ts = types_view c.args.types.now in empty_list (signature_at ts) _ _ _ c.as_slice.result.now c.in-List.is c.as_slice.ensures.value c.in_default.len_below ∙ at_nothing ts

pub returns-in_default-first : goal.returns-in_default-first
returns-in_default-first c = let ts = types_view c.args.types.now in list_first (signature_at ts) _ _ _ c.as_slice.result.now c.first-item.result _ _ c.in-List.is c.as_slice.ensures.value c.in-len1-up.len_at_least c.first-item.is c.in_default-first.is ∙ at_list ts _ _

pub returns-in_err-name : goal.returns-in_err-name
returns-in_err-name c =
    let ts = types_view c.args.types.now in
    let is = word_first (signature_at ts) _ _ _ c.as_slice.result.now c.first-item.result _ c.in-List.is c.as_slice.ensures.value c.in-len1-up.len_at_least c.first-item.is c.in-Word-first.is ∙ at_signature ts _ _ in
    let p = err_from_is_err_and c.from_residual.result c.from_residual.ensures.1 in
    rw (p.1, p.2) (fails_same c.in_err-name.field-0.0 _ _ is (fails_bind c.in_err-name.field-0.0 _ _ c.in_err-name.ensures))

pub returns-in_err-parameters : goal.returns-in_err-parameters
returns-in_err-parameters c =
    let ts = types_view c.args.types.now in
    let rest = shapes (take (length c.as_slice.result.now - 1) (drop 1 c.as_slice.result.now)) in
    let n : Name = string_bytes c.in_ok-name.name in
    let is = word_first (signature_at ts) _ _ _ c.as_slice.result.now c.first-item.result _ c.in-List.is c.as_slice.ensures.value c.in-len1-up.len_at_least c.first-item.is c.in-Word-first.is ∙ at_signature ts _ _ ∙ ap (λ (o : Option Name). o >>= λ m. option_map (signature_with m) (parameters_of ts rest)) c.in_ok-name.ensures in
    let p = err_from_is_err_and c.from_residual-in_err-parameters.result c.from_residual-in_err-parameters.ensures.1 in
    rw (p.1, p.2) (fails_same c.in_err-parameters.field-0.0 _ _ is (fails_map (signature_with n) c.in_err-parameters.field-0.0 _ c.in_err-parameters.ensures))

pub returns : goal.returns
returns c =
    let ts = types_view c.args.types.now in
    let rest = shapes (take (length c.as_slice.result.now - 1) (drop 1 c.as_slice.result.now)) in
    let n : Name = string_bytes c.in_ok-name.name in
    word_first (signature_at ts) _ _ _ c.as_slice.result.now c.first-item.result _ c.in-List.is c.as_slice.ensures.value c.in-len1-up.len_at_least c.first-item.is c.in-Word-first.is ∙ at_signature ts _ _ ∙ ap (λ (o : Option Name). o >>= λ m. option_map (signature_with m) (parameters_of ts rest)) c.in_ok-name.ensures
    ∙ ap (option_map (signature_with n)) c.in_ok-parameters.ensures
