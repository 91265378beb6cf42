use Rattle.std.proofs.Common.{◌≡◌, map, take}
use Rattle.tp_ground_named.specs.Picks.{row_words}
use Rattle.tp_ground_bindings.specs.Rows.{names_of}
use Rattle.tp_ground_named.proofs.picks.rows_in.Given as goal

abbrev pub invariant-loop-names : goal.invariant-loop-names
invariant-loop-names l = map row_words l.rows.items ≡ map names_of (take l.names-index l.asked)
