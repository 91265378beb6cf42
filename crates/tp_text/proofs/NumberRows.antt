-- Spellings of numbers and ticks, by computing.
use Rattle.std.proofs.Common.{◌≡◌, codes, Some, None, refl}
use lib.IntN.{pos, neg_ℤ}
use Rattle.tp_text.specs.Numbers.{signed, whole_of, time_of, ticks_of}

three : whole_of (codes "3.0") ≡ Some (pos 3)
unfolding signed
three = refl

fraction : whole_of (codes "2.5") ≡ None
unfolding signed
fraction = refl

least : whole_of (codes "-9223372036854775808") ≡ Some (neg_ℤ (pos 9223372036854775808))
unfolding signed
least = refl

too_great : whole_of (codes "9223372036854775808") ≡ None
unfolding signed
too_great = refl

no_digits : whole_of (codes "-") ≡ None
unfolding signed
no_digits = refl

plus : whole_of (codes "+1") ≡ None
unfolding signed
plus = refl

thousandth : ticks_of 1000 (codes "0.001") ≡ Some 1
unfolding time_of
thousandth = refl

finer : ticks_of 1000 (codes "0.0005") ≡ None
unfolding time_of
finer = refl

half : ticks_of 1000 (codes "4.500000") ≡ Some 4500
unfolding time_of
half = refl

greatest : ticks_of 1 (codes "4294967295.0") ≡ Some 4294967295
unfolding time_of
greatest = refl

point_alone : ticks_of 1 (codes "1.") ≡ None
unfolding time_of
point_alone = refl
