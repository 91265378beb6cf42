use Rattle.std.proofs.Common.{◌≡◌, map, length, string_bytes}
use Rattle.tp_task.specs.Words.{same_words}
use Rattle.tp_ground_bindings.proofs.universe.are_same.Given as goal

abbrev pub invariant-pairs : goal.invariant-pairs
invariant-pairs l = same_words (map string_bytes l.open) (map string_bytes l.others) ≡ same_words (map string_bytes l.left) (map string_bytes l.right)

abbrev pub decreases-pairs : goal.decreases-pairs
decreases-pairs l = length l.open
