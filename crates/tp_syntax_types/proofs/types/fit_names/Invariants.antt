use Rattle.std.proofs.Common.{◌≡◌, List, map, drop, string_bytes}
use Rattle.tp_syntax_ast.specs.Symbols.{Name, types_fit}
use Rattle.tp_syntax_types.specs.Among.{AreAmong}
use Rattle.tp_syntax_types.specs.TypeViews.{types_view}
use Rattle.tp_syntax_types.proofs.types.fit_names.Given as goal

abbrev pub invariant-loop-below : goal.invariant-loop-below
invariant-loop-below l =
    (ps : List Name) → AreAmong ps l.names
    → types_fit (types_view l.types) (map string_bytes (drop l.below-index l.argument)) ps
    ≡ types_fit (types_view l.types) (map string_bytes l.argument) ps
