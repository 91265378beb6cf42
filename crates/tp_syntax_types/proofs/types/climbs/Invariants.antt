use Rattle.std.proofs.Common.{◌≡◌, string_bytes}
use Rattle.tp_syntax_types.specs.TypeViews.{types_view}
use Rattle.tp_syntax_ast.specs.Symbols.{at_or_below}
use Rattle.tp_syntax_types.proofs.types.climbs.Given as goal

abbrev pub invariant-up : goal.invariant-up
invariant-up l = at_or_below (types_view l.types) l.left (string_bytes l.current) l.above ≡ at_or_below (types_view l.types) l.steps (string_bytes l.below) l.above

abbrev pub decreases-up : goal.decreases-up
decreases-up l = l.left
