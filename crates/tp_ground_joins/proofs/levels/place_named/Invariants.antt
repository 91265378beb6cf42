use Rattle.std.proofs.Common.{◌≡◌, drop, map}
use Rattle.tp_syntax_ast.specs.Symbols.{typed_view}
use Rattle.tp_ground_joins.specs.Levels.{place_from}
use Rattle.tp_ground_joins.proofs.levels.place_named.Given as goal

abbrev pub invariant-loop-place : goal.invariant-loop-place
invariant-loop-place l = place_from l.place (map typed_view (drop l.place l.parameters)) l.name ≡ place_from 0 (map typed_view l.parameters) l.name
