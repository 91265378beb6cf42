use Rattle.std.proofs.Common.{option_map, ap, sym, ◌∙◌}
use Rattle.tp_syntax_ast.specs.Symbols.{signature_view}
use Rattle.tp_syntax_types.proofs.OnTables.{behind}
use Rattle.tp_syntax_scope.proofs.OnSymbols.{signature_found}
use Rattle.tp_syntax_scope.proofs.symbols.signature_of.Goals as goal

pub returns : goal.returns
returns c = behind signature_view c.find.result ∙ ap (option_map signature_view) c.find.ensures ∙ sym (signature_found c.args.name.now c.args.signatures.now)
