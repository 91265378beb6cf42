use Rattle.std.proofs.Common.{◌≡◌, map, drop, length, string_bytes}
use Rattle.std.specs.List.{list_any}
use Rattle.tp_syntax_types.specs.TypeViews.{types_view}
use Rattle.tp_syntax_ast.specs.Symbols.{at_or_below}
use Rattle.tp_syntax_types.proofs.types.type_fits.Given as goal

abbrev pub invariant-loop-above : goal.invariant-loop-above
invariant-loop-above l = list_any (λ p. at_or_below (types_view l.types) (length l.types) l.below p) (map string_bytes (drop l.above-index l.parameter)) ≡ list_any (λ p. at_or_below (types_view l.types) (length l.types) l.below p) (map string_bytes l.parameter)
