use Rattle.std.proofs.Common.{◌≡◌, map, drop}
use Rattle.tp_ground_joins.specs.Keys.{key_of, names_at}
use Rattle.tp_ground_joins.specs.Views.{keyed_view}
use Rattle.tp_ground_joins.proofs.keys.key_of.Given as goal

abbrev pub invariant-loop-place : goal.invariant-loop-place
invariant-loop-place l = key_of l.key (names_at (drop l.place-index l.places) (map keyed_view l.row)) ≡ key_of 0 (names_at l.places (map keyed_view l.row))
