-- Moments and weights in a range far from the ends of the machine's numbers.
use Rattle.std.specs.Prelude.{ℕ, ◌<◌, ◌^◌, ℤ, pos, negsuc, ◌≤ℤ◌}

-- numbers of which a few can be added up without leaving 64 bits
abbrev pub IsSmall : ℕ → Type 0
IsSmall n = n < 2 ^ 40

abbrev pub IsSmallWeight : ℤ → Type 0
IsSmallWeight w = (negsuc 1099511627776 ≤ℤ w) × (w ≤ℤ pos 1099511627776)
