use Rattle.std.proofs.Common.{Some, map, option_map, string_bytes, ap, sym, ◌∙◌}
use Rattle.tp_syntax_ast.specs.declared.symbols.Typed.{Typed}
use Rattle.tp_syntax_scope.proofs.OnSymbols.{types_of_found}
use Rattle.tp_syntax_scope.proofs.symbols.types_found.Goals as goal

pub returns-in-Some : goal.returns-in-Some
returns-in-Some c =
    ap (λ ts. Some (map string_bytes ts)) c.type_names.ensures
    ∙ ap (option_map (λ (d : Typed). map string_bytes d.types.value.items)) c.in-Some.ensures
    ∙ sym (types_of_found c.args.name.now c.args.declared.now)

pub returns-in-None : goal.returns-in-None
returns-in-None c =
    ap (option_map (λ (d : Typed). map string_bytes d.types.value.items)) c.in-None.ensures
    ∙ sym (types_of_found c.args.name.now c.args.declared.now)
