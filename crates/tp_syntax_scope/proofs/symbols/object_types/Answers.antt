use Rattle.std.proofs.Common.{map, sym, ap, ◌∙◌}
use Rattle.tp_syntax_ast.specs.Symbols.{typed_view, types_of}
use Rattle.tp_syntax_scope.proofs.OnSymbols.{or_else, types_of-append}
use Rattle.tp_syntax_scope.proofs.symbols.object_types.Goals as goal

pub returns-in-Some : goal.returns-in-Some
returns-in-Some c =
    let s = c.args.symbols.now in
    sym (types_of-append c.args.name.now (map typed_view s.constants) (map typed_view s.objects) ∙ ap (λ o. or_else o (types_of c.args.name.now (map typed_view s.objects))) (sym c.in-Some.ensures))

pub returns-in-None : goal.returns-in-None
returns-in-None c =
    let s = c.args.symbols.now in
    c.types_found-in-None.ensures ∙ sym (types_of-append c.args.name.now (map typed_view s.constants) (map typed_view s.objects) ∙ ap (λ o. or_else o (types_of c.args.name.now (map typed_view s.objects))) (sym c.in-None.ensures))
