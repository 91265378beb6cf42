-- Numbers and ticks as words spell them.
use Rattle.std.specs.Prelude.{ℕ, ◌+◌, ◌*◌, ◌^◌, ◌/◌, ◌%◌, List, [], ◌∷◌, ◌++◌, length, Bool, false, ◌==◌, ◌&&◌, ◌||◌, not, nat_lt, if◌then◌else◌, Option, Some, None, option_map}
use Rattle.std.specs.List.{list_all, list_any}
use Rattle.std.specs.Char.{is_ascii_digit}
use Rattle.std.specs.Str.Parse.{digits_value}
use lib.IntN.{ℤ, pos, neg_ℤ}

-- the bytes before the first '.'
abbrev pub before_point : List ℕ → List ℕ
before_point [] = []
before_point (b ∷ bs) = if b == 46 then [] else b ∷ before_point bs

-- the bytes after it
abbrev pub after_point : List ℕ → List ℕ
after_point [] = []
after_point (b ∷ bs) = if b == 46 then bs else after_point bs

abbrev pub all_zeros : List ℕ → Bool
all_zeros bs = list_all (λ b. b == 48) bs

-- one digit or more
abbrev pub is_natural : List ℕ → Bool
is_natural [] = false
is_natural (b ∷ bs) = list_all is_ascii_digit (b ∷ bs)

-- the number that digits make, if it is below a limit
abbrev pub natural_below : ℕ → List ℕ → Option ℕ
natural_below limit ds =
    if is_natural ds && nat_lt (digits_value 10 ds) limit then Some (digits_value 10 ds) else None

-- '-' or nothing, and then digits
unfoldable pub signed : List ℕ → Option ℤ
signed [] = None
signed (b ∷ bs) =
    if b == 45 then option_map (λ n. neg_ℤ (pos n)) (natural_below (2 ^ 63 + 1) bs)
    else option_map pos (natural_below (2 ^ 63) (b ∷ bs))

-- the whole number that a word spells, with nothing after its digits, or '.' and zeros
abbrev pub whole_of : List ℕ → Option ℤ
whole_of w = if all_zeros (after_point w) then signed (before_point w) else None

-- digits, or digits, '.', digits
abbrev pub has_time_form : List ℕ → Bool
has_time_form w =
    is_natural (before_point w) && (not (list_any (λ b. b == 46) w) || is_natural (after_point w))

-- a quotient that leaves nothing
abbrev pub exact : ℕ → ℕ → Option ℕ
exact n d = if n % d == 0 then Some (n / d) else None

-- the value times the ticks of a unit, if that is whole: the digits without the point, by ten for each behind it
unfoldable pub time_of : ℕ → List ℕ → Option ℕ
time_of scale w =
    if has_time_form w then exact (digits_value 10 (before_point w ++ after_point w) * scale)
    (10 ^ length (after_point w)) else None

abbrev pub below : ℕ → Option ℕ → Option ℕ
below limit None = None
below limit (Some n) = if nat_lt n limit then Some n else None

-- the ticks that a word spells
abbrev pub ticks_of : ℕ → List ℕ → Option ℕ
ticks_of scale w = below (2 ^ 32) (time_of scale w)
