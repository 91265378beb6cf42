use Rattle.std.proofs.Common.{◌≡◌, map, drop, string_bytes}
use Rattle.tp_syntax_types.specs.TypeViews.{types_view}
use Rattle.tp_syntax_ast.specs.Symbols.{types_fit}
use Rattle.tp_syntax_types.proofs.types.types_fit.Given as goal

abbrev pub invariant-loop-below : goal.invariant-loop-below
invariant-loop-below l = types_fit (types_view l.types) (map string_bytes (drop l.below-index l.argument)) (map string_bytes l.parameter) ≡ types_fit (types_view l.types) (map string_bytes l.argument) (map string_bytes l.parameter)
