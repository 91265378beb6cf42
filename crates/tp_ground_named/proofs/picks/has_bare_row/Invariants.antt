use Rattle.std.proofs.Common.{◌≡◌, false, [], map, take}
use Rattle.tp_task.specs.Words.{has_words}
use Rattle.tp_ground_named.specs.Picks.{row_words}
use Rattle.tp_ground_named.proofs.picks.has_bare_row.Given as goal

abbrev pub invariant-loop-row : goal.invariant-loop-row
invariant-loop-row l = has_words (map row_words (take l.row-index l.rows)) [] ≡ false
