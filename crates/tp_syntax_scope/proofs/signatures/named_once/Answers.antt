use Rattle.std.proofs.Common.{map, not, string_bytes, ap, ◌∙◌}
use Rattle.tp_syntax_ast.specs.Gives.{provided}
use Rattle.tp_syntax_ast.specs.Symbols.{SignatureView, signature_view}
use Rattle.tp_syntax_ast.specs.TypedLists.{has_twice}
use Rattle.tp_syntax_ast.specs.declared.symbols.Signature.{Signature}
use Rattle.tp_syntax_types.proofs.OnTables.{map_twice, some_twice, none_twice}
use Rattle.tp_syntax_scope.proofs.signatures.named_once.Goals as goal

pub returns-in-Some : goal.returns-in-Some
returns-in-Some c =
    let fs = c.args.signatures.items in
    ap (λ b. provided (not b) (map signature_view fs))
    (ap has_twice (map_twice (λ (f : SignatureView). f.name) signature_view fs) ∙ some_twice (λ (s : Signature). string_bytes s.name) fs _ c.in_ok-number.field-0 _ c.in_ok-number.ensures c.deref.ensures.value c.in-Some.is)

pub returns : goal.returns
returns c =
    let fs = c.args.signatures.items in
    ap (λ b. provided (not b) (map signature_view fs))
    (ap has_twice (map_twice (λ (f : SignatureView). f.name) signature_view fs) ∙ none_twice (λ (s : Signature). string_bytes s.name) fs _ c.in_ok-number.field-0 c.in_ok-number.ensures c.deref.ensures.value c.in_default.is)
