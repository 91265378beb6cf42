use Rattle.std.proofs.Common.{◌≡◌, ◌++◌, drop, map}
use Rattle.tp_ground_bindings.specs.Rows.{names_of}
use Rattle.tp_ground_joins.specs.Joined.{picked, words_seen}
use Rattle.tp_ground_joins.proofs.joined.marked_words.Given as goal

abbrev pub invariant-loop-place : goal.invariant-loop-place
invariant-loop-place l = map names_of l.words.items ++ picked words_seen (drop l.place l.marks) (drop l.place l.some) ≡ picked words_seen l.marks l.some
