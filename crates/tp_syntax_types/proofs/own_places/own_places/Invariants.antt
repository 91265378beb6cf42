use Rattle.std.proofs.Common.{map, take}
use Rattle.tp_syntax_types.specs.OwnTables.{variable_name, IsTextTable}
use Rattle.tp_syntax_types.proofs.own_places.own_places.Given as goal

abbrev pub invariant-loop-place : goal.invariant-loop-place
invariant-loop-place l = IsTextTable l.places (map variable_name (take l.place l.items))
