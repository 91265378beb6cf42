use Rattle.std.proofs.Common.{◌∷◌, map, take}
use Rattle.tp_syntax_ast.specs.Symbols.{parent_view}
use Rattle.tp_syntax_ast.specs.Domains.{object}
use Rattle.tp_syntax_scope.specs.SignatureViews.{Knows}
use Rattle.tp_syntax_scope.proofs.type_reader.known_names.Given as goal

abbrev pub invariant-loop-declared : goal.invariant-loop-declared
invariant-loop-declared l = Knows l.known (object ∷ map (λ p. p.name) (map parent_view (take l.declared-index l.types)))
