use Rattle.std.proofs.Common.{◌≡◌, List, string_bytes}
use Rattle.std.specs.List.{list_any}
use Rattle.tp_syntax_ast.specs.Symbols.{Name, at_or_below}
use Rattle.tp_syntax_types.specs.Among.{AreAmong}
use Rattle.tp_syntax_types.specs.TypeViews.{types_view}
use Rattle.tp_syntax_types.proofs.types.climbs_to.Given as goal

abbrev pub invariant-up : goal.invariant-up
invariant-up l =
    (ps : List Name) → AreAmong ps l.above
    → list_any (λ p. at_or_below (types_view l.types) l.left (string_bytes l.current) p) ps
    ≡ list_any (λ p. at_or_below (types_view l.types) l.steps (string_bytes l.below) p) ps

abbrev pub decreases-up : goal.decreases-up
decreases-up l = l.left
