use Rattle.std.proofs.Common.{◌≡◌, map, drop, length}
use Rattle.std.specs.List.{list_all}
use Rattle.tp_syntax_ast.specs.Domains.{object}
use Rattle.tp_syntax_ast.specs.Symbols.{parent_view, at_or_below}
use Rattle.tp_syntax_types.specs.TypeViews.{types_view}
use Rattle.tp_syntax_types.proofs.types.are_below_object.Given as goal

abbrev pub invariant-loop-declared : goal.invariant-loop-declared
invariant-loop-declared l =
    list_all (λ p. at_or_below (types_view l.types) (length l.types) p.name object) (map parent_view (drop l.declared-index l.some))
    ≡ list_all (λ p. at_or_below (types_view l.types) (length l.types) p.name object) (map parent_view l.some)
