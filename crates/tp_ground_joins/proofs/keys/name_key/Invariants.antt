use Rattle.std.proofs.Common.{◌≡◌, drop}
use Rattle.tp_ground_joins.specs.Keys.{name_key}
use Rattle.tp_ground_joins.proofs.keys.name_key.Given as goal

abbrev pub invariant-loop-byte : goal.invariant-loop-byte
invariant-loop-byte l = name_key l.key (drop l.byte-index l.byte-items) ≡ name_key 0 l.byte-items
