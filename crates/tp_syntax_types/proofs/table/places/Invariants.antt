use Rattle.std.proofs.Common.{map, take}
use Rattle.tp_syntax_types.specs.Tables.{IsTable}
use Rattle.tp_syntax_types.proofs.table.places.Given as goal

abbrev pub invariant-loop-place : goal.invariant-loop-place
invariant-loop-place g l = IsTable l.places (map g.T.Named.named (take l.place l.items))
