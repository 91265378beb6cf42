use Rattle.std.proofs.Common.{◌≡◌, ◌||◌, map, not, drop}
use Rattle.std.specs.List.{list_all}
use Rattle.std.specs.Str.{bytes_eq}
use Rattle.tp_syntax_ast.specs.Symbols.{parent_view}
use Rattle.tp_syntax_ast.specs.Domains.{object, is_object}
use Rattle.tp_syntax_scope.proofs.type_reader.object_is_highest.Given as goal

abbrev pub invariant-loop-declared : goal.invariant-loop-declared
invariant-loop-declared l = list_all (λ p. not (is_object p) || bytes_eq p.parent object) (map parent_view (drop l.declared-index l.types)) ≡ list_all (λ p. not (is_object p) || bytes_eq p.parent object) (map parent_view l.types)
