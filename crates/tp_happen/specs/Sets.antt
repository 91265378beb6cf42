-- Which numbers a set has.
use Rattle.std.specs.Prelude.{ℕ, ◌/◌, ◌%◌, ◌==◌, ◌&&◌, Bool, List, slice_index}
use Rattle.std.specs.Int.{bit_at}
use Rattle.tp_happen.specs.declared.sets.NumberSet.{NumberSet}

-- words have a number if bit number % 64 of word number / 64 is 1; past the words no bit is
unfoldable pub has_bit : List ℕ → ℕ → Bool
has_bit words n = bit_at (slice_index words (n / 64)) (n % 64) == 1

-- the same of one word that stands at a place
unfoldable pub is_in_word : ℕ → ℕ → ℕ → Bool
is_in_word place word n = n / 64 == place && bit_at word (n % 64) == 1

unfoldable pub has_number : NumberSet → ℕ → Bool
has_number set n = has_bit set.words.items n
