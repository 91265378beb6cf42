use Rattle.std.proofs.Common.{map, take, string_bytes}
use Rattle.tp_syntax_types.specs.Among.{AreAmong}
use Rattle.tp_syntax_types.proofs.types.names_of.Given as goal

abbrev pub invariant-loop-name : goal.invariant-loop-name
invariant-loop-name l = AreAmong (map string_bytes (take l.name-index l.types)) l.names
