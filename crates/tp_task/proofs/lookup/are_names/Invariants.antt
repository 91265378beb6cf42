use Rattle.std.proofs.Common.{◌≡◌, map, length, string_bytes}
use Rattle.tp_task.specs.Words.{same_words}
use Rattle.tp_task.specs.Labels.{named}
use Rattle.tp_task.proofs.lookup.are_names.Given as goal

abbrev pub invariant-pairs : goal.invariant-pairs
invariant-pairs l = same_words (map (λ w. w.now) l.left) (named (map string_bytes l.names.keys) l.open) ≡ same_words (map (λ w. w.now) l.words) (named (map string_bytes l.names.keys) l.numbers)

abbrev pub decreases-pairs : goal.decreases-pairs
decreases-pairs l = length l.left
