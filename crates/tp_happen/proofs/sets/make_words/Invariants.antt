use Rattle.std.proofs.Common.{◌≡◌, ℕ, ◌-◌, length}
use Rattle.tp_happen.specs.Sets.{has_bit}
use Rattle.tp_happen.proofs.sets.make_words.Given as goal

abbrev pub invariant-loop-words : goal.invariant-loop-words
invariant-loop-words l = (n : ℕ) → has_bit l.words.items n ≡ has_bit l.fn.words.items n

abbrev pub decreases-loop-words : goal.decreases-loop-words
decreases-loop-words l = l.count - length l.words.items
