-- Times as they are read: the digits before the point, and the ticks of those behind it.
use Rattle.std.proofs.Common.{◌≡◌, ℕ, zero, suc, ◌+◌, ◌-◌, ◌*◌, ◌/◌, ◌%◌, ◌^◌, ◌<◌, ◌≤◌, max, List, [], ◌∷◌, ◌++◌, length, take, drop, get_or, Bool, true, false, cond, eqb, nat_lt, not, ◌&&◌, ◌||◌, length-take-le, Option, Some, None, option_map, Result, refl, sym, ap, ◌∙◌, arith, ◌⊎◌, inl, inr}
use Rattle.std.specs.List.{list_all, list_any}
use Rattle.std.specs.Char.{is_ascii_digit, digit_value}
use Rattle.std.specs.Str.Parse.{digits_value, digits_value_after, AllDigits, ParsesUnsigned}
use Rattle.std.proofs.Math.Nat.{pow-suc, one-le-pow, mul_assoc, mul-le-mul_right, eq_of_mul-eq-mul_right}
use Rattle.std.proofs.lemmas.Nat.{div-add-mod', div-mul-add, mod-mul-add}
use Rattle.std.proofs.lemmas.Bool.{ne_eqb, eqb-true, eqb-false, cases_lt, and_parts}
use Rattle.std.proofs.lemmas.Bool.Decides.{nat_tests}
use Rattle.std.specs.Result.{result_ok}
use Rattle.std.specs.Option.{SomeIff}
use Rattle.std.proofs.lemmas.List.{at_drop_more, at_drop_all}
use Rattle.std.proofs.lemmas.Str.Parse.{parse_digits}
use Rattle.std.proofs.lemmas.Int.Digits.{digits_value-lt}
use Rattle.tp_text.proofs.OnNumbers.{own, natural_parts, decided, spelled, below_is, is_below}
use Rattle.tp_text.specs.Numbers.{before_point, after_point, is_natural, natural_below, has_time_form, exact, time_of, below, ticks_of}
use Rattle.tp_text.specs.Scales.{scale_ticks}
use Rattle.tp_text.specs.declared.number.Scale.{Scale}
use Rattle.tp_text.specs.declared.number.Scale.TheVariants.{One, Ten, Hundred, Thousand}

-- ---- quotients that leave nothing

pub exact_some : (n d q : ℕ) → 0 < d → n ≡ q * d → exact n d ≡ Some q
exact_some n d q pos is =
    let m : n % d ≡ 0 = ap (λ (x : ℕ). x % d) (omega arith) ∙ mod-mul-add q d 0 pos in
    let k : n / d ≡ q = ap (λ (x : ℕ). x / d) (omega arith) ∙ div-mul-add q d 0 pos in
    rw (m, k) refl

pub exact_none : (n d : ℕ) → 0 < d → ((q : ℕ) → n ≡ q * d → ⊥) → exact n d ≡ None
exact_none n d pos none =
    let m : n % d ≡ 0 → ⊥ = λ e. none (n / d) (omega (arith, div-add-mod' n d)) in
    let t : eqb (n % d) 0 ≡ false = ne_eqb _ _ m in
    rw t refl

abbrev Divides : ℕ → ℕ → Type 0
Divides n d = ((q : ℕ) × (n ≡ q * d) × (exact n d ≡ Some q)) ⊎ ((exact n d ≡ None) × ((q : ℕ) → n ≡ q * d → ⊥))

divides_by : (n d : ℕ) (t : Bool) → 0 < d → eqb (n % d) 0 ≡ t → Divides n d
divides_by n d true pos e =
    let z = eqb-true (n % d) 0 e in
    inl (n / d, omega (arith, div-add-mod' n d), rw e refl)
divides_by n d false pos e =
    let z = eqb-false (n % d) 0 e in
    inr (rw e refl, λ q is. z (ap (λ (x : ℕ). x % d) (omega arith) ∙ mod-mul-add q d 0 pos))

divides : (n d : ℕ) → 0 < d → Divides n d
divides n d pos = divides_by n d (eqb (n % d) 0) pos refl

product_pos : (a b : ℕ) → 0 < a → 0 < b → 0 < a * b
product_pos zero b ha hb = absurd (omega arith)
product_pos (suc a) zero ha hb = absurd (omega arith)
product_pos (suc a) (suc b) ha hb = omega arith

-- a multiple of the divisor beside a number adds to the quotient
none_beside : (a n d q : ℕ) → 0 < d → ((r : ℕ) → n ≡ r * d → ⊥) → a * d + n ≡ q * d → ⊥
none_beside a n d q pos none is = elim (cases_lt q a) as (λ w. ⊥) [
  | inl lt ↦ let k : ℕ = a - (q + 1) in let e : a ≡ q + 1 + k = omega arith in let f : a * d ≡ (q + 1 + k) * d = ap (λ (x : ℕ). x * d) e in absurd (omega arith)
  | inr le ↦ let k : ℕ = q - a in let e : q ≡ a + k = omega arith in let f : q * d ≡ (a + k) * d = ap (λ (x : ℕ). x * d) e in none k (omega arith)
]

exact_beside : (a n d : ℕ) → 0 < d → exact (a * d + n) d ≡ option_map (λ p. a + p) (exact n d)
exact_beside a n d pos = elim (divides n d pos) as (λ w. exact (a * d + n) d ≡ option_map (λ p. a + p) (exact n d)) [
  | inl h ↦ exact_some (a * d + n) d (a + h.0) pos (omega (arith, h.1)) ∙ sym (ap (option_map (λ p. a + p)) h.2)
  | inr h ↦ exact_none (a * d + n) d pos (λ q is. none_beside a n d q pos h.1 is) ∙ sym (ap (option_map (λ p. a + p)) h.0)
]

exact_scaled : (n d k : ℕ) → 0 < d → 0 < k → exact (n * k) (d * k) ≡ exact n d
exact_scaled n d k pos some = elim (divides n d pos) as (λ w. exact (n * k) (d * k) ≡ exact n d) [
  | inl h ↦ exact_some (n * k) (d * k) h.0 (product_pos d k pos some) (ap (λ (x : ℕ). x * k) h.1 ∙ mul_assoc h.0 d k) ∙ sym h.2
  | inr h ↦ exact_none (n * k) (d * k) (product_pos d k pos some) (λ q is. h.1 q (eq_of_mul-eq-mul_right k some n (q * d) (is ∙ sym (mul_assoc q d k)))) ∙ sym h.0
]

-- below the divisor nothing but 0 is a multiple
no_multiple : (n d q : ℕ) → 0 < n → n < d → n ≡ q * d → ⊥
no_multiple n d zero some lt is = absurd (omega arith)
no_multiple n d (suc q) some lt is = absurd (omega arith)

exact_none_below : (n d : ℕ) → 0 < n → n < d → exact n d ≡ None
exact_none_below n d some lt = exact_none n d (omega arith) (λ q is. no_multiple n d q some lt is)

exact_small : (n d e : ℕ) → n < d → n < e → exact n d ≡ exact n e
exact_small zero d e lt less = exact_some 0 d 0 lt (omega arith) ∙ sym (exact_some 0 e 0 less (omega arith))
exact_small (suc n) d e lt less = exact_none_below (suc n) d (omega arith) lt ∙ sym (exact_none_below (suc n) e (omega arith) less)

-- ---- digits

value_after : (n : ℕ) (ds : List ℕ) → digits_value_after 10 n ds ≡ n * 10 ^ length ds + digits_value 10 ds
value_after n [] = omega arith
value_after n (c ∷ cs) =
    let a = value_after (n * 10 + digit_value c) cs in
    let b = value_after (0 * 10 + digit_value c) cs in
    omega (arith, ap (λ (x : ℕ). n * x) (pow-suc 10 (length cs)))

value_joined : (n : ℕ) (xs ys : List ℕ) → digits_value_after 10 n (xs ++ ys) ≡ digits_value_after 10 (digits_value_after 10 n xs) ys
value_joined n [] ys = refl
value_joined n (x ∷ xs) ys = value_joined (n * 10 + digit_value x) xs ys

value_append : (xs ys : List ℕ) → digits_value 10 (xs ++ ys) ≡ digits_value 10 xs * 10 ^ length ys + digits_value 10 ys
value_append xs ys = value_joined 0 xs ys ∙ value_after (digits_value 10 xs) ys

value_first : (c : ℕ) (ds : List ℕ) → digits_value 10 (c ∷ ds) ≡ digit_value c * 10 ^ length ds + digits_value 10 ds
value_first c ds = ap (λ (n : ℕ). digits_value_after 10 n ds) (omega arith) ∙ value_after (digit_value c) ds

ten_pos : (k : ℕ) → 0 < 10 ^ k
ten_pos k = let h = one-le-pow k 10 (omega arith) in omega (arith, h)

pub digit_is : (c : ℕ) → is_ascii_digit c ≡ true → (48 ≤ c) × (c ≤ 57) × (digit_value c ≡ c - 48)
digit_is c h = (grind (arith, nat_tests), grind (arith, nat_tests), grind (arith, nat_tests))

digits_are : (ds : List ℕ) → list_all is_ascii_digit ds ≡ true → AllDigits 10 ds
digits_are ds h = own.to ds h

-- ---- the digits behind a point

-- what digits are worth where the first counts tenths of so many ticks, or must be 0 where that is less than a tick
abbrev pub fine : ℕ → List ℕ → Option ℕ
fine unit ds = exact (digits_value 10 ds * max unit 1) (10 ^ length ds)

-- the ticks of a unit, a tenth, a hundredth or a thousandth, or 0
abbrev pub IsPlace : ℕ → Type 0
IsPlace unit = (unit ≤ 1) ⊎ ((unit ≡ 10) ⊎ ((unit ≡ 100) ⊎ (unit ≡ 1000)))

pub scale_place : (s : Scale) → IsPlace (scale_ticks s)
scale_place One = inl (omega arith)
scale_place Ten = inr (inl refl)
scale_place Hundred = inr (inr (inl refl))
scale_place Thousand = inr (inr (inr refl))

pub next_place : (unit : ℕ) → IsPlace unit → IsPlace (unit / 10)
next_place unit (inl h) = inl (omega arith)
next_place unit (inr (inl h)) = inl (omega arith)
next_place unit (inr (inr (inl h))) = inr (inl (omega arith))
next_place unit (inr (inr (inr h))) = inr (inr (inl (omega arith)))

whole_step : (v w n l : ℕ) → 0 < l → exact ((v * l + n) * (10 * w)) (l * 10) ≡ option_map (λ p. v * w + p) (exact (n * w) l)
whole_step v w n l pos =
    let e : (v * l + n) * (10 * w) ≡ (v * w * l + n * w) * 10 = omega arith in
    ap (λ (x : ℕ). exact x (l * 10)) e ∙ exact_scaled (v * w * l + n * w) l 10 pos (omega arith) ∙ exact_beside (v * w) (n * w) l pos

tens_step : (unit w v n l : ℕ) → 0 < w → unit ≡ 10 * w → 0 < l → exact ((v * l + n) * max unit 1) (l * 10) ≡ option_map (λ p. v * (unit / 10) + p) (exact (n * max (unit / 10) 1) l)
tens_step unit w v n l some is pos =
    let m : max unit 1 ≡ 10 * w = omega arith in
    let q : unit / 10 ≡ w = omega arith in
    let k : max w 1 ≡ w = omega arith in
    rw (m, q, k) (whole_step v w n l pos)

zero_more : (o : Option ℕ) → o ≡ option_map (λ p. 0 * 0 + p) o
zero_more None = refl
zero_more (Some p) = ap (λ (x : ℕ). Some x) (omega arith)

tick_step : (unit v n l : ℕ) → unit ≤ 1 → v ≡ 0 → n < l → exact ((v * l + n) * max unit 1) (l * 10) ≡ option_map (λ p. v * (unit / 10) + p) (exact (n * max (unit / 10) 1) l)
tick_step unit v n l le is lt =
    let m : max unit 1 ≡ 1 = omega arith in
    let q : unit / 10 ≡ 0 = omega arith in
    let a : (0 * l + n) * 1 ≡ n = omega arith in
    let b : n * 1 ≡ n = omega arith in
    rw (is, m, q, a, b) (exact_small n (l * 10) l (omega arith) lt ∙ zero_more (exact n l))

-- one digit
step : (unit v n l : ℕ) → IsPlace unit → (unit / 10 ≡ 0 → v ≡ 0) → n < l → exact ((v * l + n) * max unit 1) (l * 10) ≡ option_map (λ p. v * (unit / 10) + p) (exact (n * max (unit / 10) 1) l)
step unit v n l (inl h) none lt = tick_step unit v n l h (none (omega arith)) lt
step unit v n l (inr (inl h)) none lt = tens_step unit 1 v n l (omega arith) (omega arith) (omega arith)
step unit v n l (inr (inr (inl h))) none lt = tens_step unit 10 v n l (omega arith) (omega arith) (omega arith)
step unit v n l (inr (inr (inr h))) none lt = tens_step unit 100 v n l (omega arith) (omega arith) (omega arith)

pub digit_goes_on : (unit c : ℕ) (ds : List ℕ) → IsPlace unit → is_ascii_digit c ≡ true → list_all is_ascii_digit ds ≡ true → (unit / 10 ≡ 0 → c ≡ 48) → fine unit (c ∷ ds) ≡ option_map (λ p. (c - 48) * (unit / 10) + p) (fine (unit / 10) ds)
digit_goes_on unit c ds place digit digits none =
    let d = digit_is c digit in
    let l : ℕ = 10 ^ length ds in
    let lt : digits_value 10 ds < l = digits_value-lt 10 ds (digits_are ds digits) in
    let v : digits_value 10 (c ∷ ds) ≡ (c - 48) * l + digits_value 10 ds = value_first c ds ∙ ap (λ (x : ℕ). x * l + digits_value 10 ds) d.2 in
    let p : 10 ^ length (c ∷ ds) ≡ l * 10 = pow-suc 10 (length ds) in
    ap (λ (x : ℕ). exact (x * max unit 1) (10 ^ length (c ∷ ds))) v
    ∙ ap (λ (x : ℕ). exact (((c - 48) * l + digits_value 10 ds) * max unit 1) x) p
    ∙ step unit (c - 48) (digits_value 10 ds) l place (λ z. let e = none z in omega (arith, e)) lt

some_value : (v l n : ℕ) → 0 < v → 0 < l → 0 < (v * l + n) * 1
some_value v l n some pos = let h = product_pos v l some pos in omega (arith, h)

below_ten : (v l n : ℕ) → v ≤ 9 → n < l → (v * l + n) * 1 < l * 10
below_ten v l n le lt = let h = mul-le-mul_right l le in omega (arith, h)

-- a digit that is finer than a tick, and not 0
pub digit_stops : (unit c : ℕ) (ds : List ℕ) → unit / 10 ≡ 0 → is_ascii_digit c ≡ true → list_all is_ascii_digit ds ≡ true → (c ≡ 48 → ⊥) → IsPlace unit → fine unit (c ∷ ds) ≡ None
digit_stops unit c ds fine_unit digit digits some place =
    let d = digit_is c digit in
    let l : ℕ = 10 ^ length ds in
    let lt : digits_value 10 ds < l = digits_value-lt 10 ds (digits_are ds digits) in
    let v : digits_value 10 (c ∷ ds) ≡ (c - 48) * l + digits_value 10 ds = value_first c ds ∙ ap (λ (x : ℕ). x * l + digits_value 10 ds) d.2 in
    let p : 10 ^ length (c ∷ ds) ≡ l * 10 = pow-suc 10 (length ds) in
    let m : max unit 1 ≡ 1 = omega arith in
    let k : c - 48 ≤ 9 = omega arith in
    ap (λ (x : ℕ). exact (x * max unit 1) (10 ^ length (c ∷ ds))) v
    ∙ ap (λ (x : ℕ). exact (((c - 48) * l + digits_value 10 ds) * x) (10 ^ length (c ∷ ds))) m
    ∙ ap (λ (x : ℕ). exact (((c - 48) * l + digits_value 10 ds) * 1) x) p
    ∙ exact_none_below _ (l * 10) (some_value (c - 48) l (digits_value 10 ds) (let h = some in omega arith) (omega arith)) (below_ten (c - 48) l (digits_value 10 ds) k lt)

-- ---- the digits before a point

pub natural_read : {E : Type 0} (k : ℕ) (ds : List ℕ) (r : Result ℕ E) → is_natural ds ≡ true → ParsesUnsigned k 10 ds r → result_ok r ≡ natural_below (2 ^ k) ds
natural_read k ds r natural parsed =
    let parts = natural_parts ds natural in
    let v : ℕ = digits_value 10 ds in
    decided r (nat_lt v (2 ^ k)) _ v (parse_digits own k ds r parsed parts.0) (λ h. (parts.1, below_is v (2 ^ k) h)) (λ q. is_below v (2 ^ k) q.1)
    ∙ sym (spelled (2 ^ k) ds natural)

-- ---- the digits of a fraction one by one

digit_at : (ds : List ℕ) (i : ℕ) → list_all is_ascii_digit ds ≡ true → i < length ds → is_ascii_digit (get_or ds i 0) ≡ true
digit_at [] i h lt = absurd (omega arith)
digit_at (d ∷ ds) zero h lt = (and_parts (is_ascii_digit d) (list_all is_ascii_digit ds) h).0
digit_at (d ∷ ds) (suc i) h lt = digit_at ds i (and_parts (is_ascii_digit d) (list_all is_ascii_digit ds) h).1 (omega arith)

digits_behind : (ds : List ℕ) (k : ℕ) → list_all is_ascii_digit ds ≡ true → list_all is_ascii_digit (drop k ds) ≡ true
digits_behind ds zero h = h
digits_behind [] (suc k) h = refl
digits_behind (d ∷ ds) (suc k) h = digits_behind ds k (and_parts (is_ascii_digit d) (list_all is_ascii_digit ds) h).1

map_twice : (a b : ℕ) (o : Option ℕ) → option_map (λ p. (a + b) + p) o ≡ option_map (λ p. a + p) (option_map (λ p. b + p) o)
map_twice a b None = refl
map_twice a b (Some p) = ap (λ (x : ℕ). Some x) (omega arith)

pub fine_scale : (s : Scale) (ds : List ℕ) → fine (scale_ticks s) ds ≡ exact (digits_value 10 ds * scale_ticks s) (10 ^ length ds)
fine_scale One ds = refl
fine_scale Ten ds = refl
fine_scale Hundred ds = refl
fine_scale Thousand ds = refl

pub scale_le : (s : Scale) → scale_ticks s ≤ 1000
scale_le One = omega arith
scale_le Ten = omega arith
scale_le Hundred = omega arith
scale_le Thousand = omega arith

pub scale_some : (s : Scale) → 0 < scale_ticks s
scale_some One = omega arith
scale_some Ten = omega arith
scale_some Hundred = omega arith
scale_some Thousand = omega arith

nothing_before : (o : Option ℕ) → option_map (λ p. 0 + p) o ≡ o
nothing_before None = refl
nothing_before (Some p) = ap (λ (x : ℕ). Some x) (omega arith)

pub starts : (u v : ℕ) (ds : List ℕ) → u ≡ v → option_map (λ p. 0 + p) (fine u ds) ≡ fine v ds
starts u v ds is = nothing_before (fine u ds) ∙ ap (λ (x : ℕ). fine x ds) is

room_with : (unit w ticks d : ℕ) → unit / 10 ≡ w → w * 10 ≤ unit → d ≤ 9 → ticks + unit ≤ 1000 → (ticks + d * (unit / 10)) + unit / 10 ≤ 1000
room_with unit w ticks d is le nine room =
    let e : d * (unit / 10) ≡ d * w = ap (λ (x : ℕ). d * x) is in
    let f : d * w ≤ 9 * w = mul-le-mul_right w nine in
    omega (arith, e, f)

pub room_on : (unit ticks d : ℕ) → IsPlace unit → d ≤ 9 → ticks + unit ≤ 1000 → (ticks + d * (unit / 10)) + unit / 10 ≤ 1000
room_on unit ticks d place nine room = room_with unit (unit / 10) ticks d refl (omega arith) nine room

module _ (ds : List ℕ) (unit ticks i : ℕ) (place : IsPlace unit) (digits : list_all is_ascii_digit ds ≡ true) (lt : i < length ds) where
  pub digit_small : get_or ds i 0 - 48 ≤ 9
  digit_small = let d = digit_is (get_or ds i 0) (digit_at ds i digits lt) in omega arith

  pub gone_on : (total : Option ℕ) → (unit / 10 ≡ 0 → get_or ds i 0 ≡ 48) → option_map (λ p. ticks + p) (fine unit (drop i ds)) ≡ total → option_map (λ p. (ticks + (get_or ds i 0 - 48) * (unit / 10)) + p) (fine (unit / 10) (drop (i + 1) ds)) ≡ total
  gone_on total none so_far =
      map_twice ticks ((get_or ds i 0 - 48) * (unit / 10)) (fine (unit / 10) (drop (i + 1) ds))
      ∙ ap (option_map (λ p. ticks + p)) (sym (digit_goes_on unit (get_or ds i 0) (drop (i + 1) ds) place (digit_at ds i digits lt) (digits_behind ds (i + 1) digits) none))
      ∙ ap (option_map (λ p. ticks + p)) (sym (at_drop_more (fine unit) ds i 0 lt))
      ∙ so_far

  pub stopped : (s : Scale) → unit / 10 ≡ 0 → (get_or ds i 0 ≡ 48 → ⊥) → option_map (λ p. ticks + p) (fine unit (drop i ds)) ≡ fine (scale_ticks s) ds → None ≡ exact (digits_value 10 ds * scale_ticks s) (10 ^ length ds)
  stopped s tick some so_far =
      ap (option_map (λ p. ticks + p)) (sym (digit_stops unit (get_or ds i 0) (drop (i + 1) ds) tick (digit_at ds i digits lt) (digits_behind ds (i + 1) digits) some place))
      ∙ ap (option_map (λ p. ticks + p)) (sym (at_drop_more (fine unit) ds i 0 lt))
      ∙ so_far
      ∙ fine_scale s ds

fine_nothing : (unit : ℕ) → fine unit [] ≡ Some 0
fine_nothing unit = exact_some (0 * max unit 1) 1 0 (omega arith) (omega arith)

pub all_digits_read : (ds : List ℕ) (unit ticks i : ℕ) (s : Scale) → length ds ≤ i → option_map (λ p. ticks + p) (fine unit (drop i ds)) ≡ fine (scale_ticks s) ds → Some ticks ≡ exact (digits_value 10 ds * scale_ticks s) (10 ^ length ds)
all_digits_read ds unit ticks i s le so_far =
    ap (λ (x : ℕ). Some x) (omega arith)
    ∙ ap (option_map (λ p. ticks + p)) (sym (fine_nothing unit))
    ∙ ap (option_map (λ p. ticks + p)) (sym (at_drop_all (fine unit) ds i le))
    ∙ so_far
    ∙ fine_scale s ds

-- ---- the form

no_point_at : (b : ℕ) (bs : List ℕ) (t : Bool) → eqb b 46 ≡ t → (length bs ≤ length (before_point bs) → list_any (λ c. eqb c 46) bs ≡ false) → length (b ∷ bs) ≤ length (before_point (b ∷ bs)) → list_any (λ c. eqb c 46) (b ∷ bs) ≡ false
no_point_at b bs true e more le = let f : before_point (b ∷ bs) ≡ [] = ap (λ (v : Bool). cond v [] (b ∷ before_point bs)) e in absurd (omega (arith, ap length f))
no_point_at b bs false e more le =
    let f : before_point (b ∷ bs) ≡ b ∷ before_point bs = ap (λ (v : Bool). cond v [] (b ∷ before_point bs)) e in
    ap (λ (v : Bool). v || list_any (λ c. eqb c 46) bs) e ∙ more (omega (arith, ap length f))

no_point : (w : List ℕ) → length w ≤ length (before_point w) → list_any (λ c. eqb c 46) w ≡ false
no_point [] le = refl
no_point (b ∷ bs) le = no_point_at b bs (eqb b 46) refl (λ more. no_point bs more) le

a_point_at : (b : ℕ) (bs : List ℕ) (t : Bool) → eqb b 46 ≡ t → (length (before_point bs) < length bs → list_any (λ c. eqb c 46) bs ≡ true) → length (before_point (b ∷ bs)) < length (b ∷ bs) → list_any (λ c. eqb c 46) (b ∷ bs) ≡ true
a_point_at b bs true e more lt = ap (λ (v : Bool). v || list_any (λ c. eqb c 46) bs) e
a_point_at b bs false e more lt =
    let f : before_point (b ∷ bs) ≡ b ∷ before_point bs = ap (λ (v : Bool). cond v [] (b ∷ before_point bs)) e in
    ap (λ (v : Bool). v || list_any (λ c. eqb c 46) bs) e ∙ more (omega (arith, ap length f))

a_point : (w : List ℕ) → length (before_point w) < length w → list_any (λ c. eqb c 46) w ≡ true
a_point [] lt = absurd (omega arith)
a_point (b ∷ bs) lt = a_point_at b bs (eqb b 46) refl (λ more. a_point bs more) lt

nothing_after_at : (b : ℕ) (bs : List ℕ) (t : Bool) → eqb b 46 ≡ t → (list_any (λ c. eqb c 46) bs ≡ false → after_point bs ≡ []) → list_any (λ c. eqb c 46) (b ∷ bs) ≡ false → after_point (b ∷ bs) ≡ []
nothing_after_at b bs true e more h = let f : true ≡ false = sym (ap (λ (v : Bool). v || list_any (λ c. eqb c 46) bs) e) ∙ h in absurd cc
nothing_after_at b bs false e more h = ap (λ (v : Bool). cond v bs (after_point bs)) e ∙ more (sym (ap (λ (v : Bool). v || list_any (λ c. eqb c 46) bs) e) ∙ h)

nothing_after : (w : List ℕ) → list_any (λ c. eqb c 46) w ≡ false → after_point w ≡ []
nothing_after [] h = refl
nothing_after (b ∷ bs) h = nothing_after_at b bs (eqb b 46) refl (λ more. nothing_after bs more) h

module _ (w : List ℕ) (n : ℕ) (le : n ≤ length w) (is : take n w ≡ before_point w) (natural : is_natural (take n w) ≡ true) where
  front_len : length (before_point w) ≡ n
  front_len = ap length (sym is) ∙ length-take-le n w le

  form_with : (any : Bool) → list_any (λ c. eqb c 46) w ≡ any → has_time_form w ≡ (not any || is_natural (after_point w))
  form_with any e =
      ap (λ (v : Bool). v && (not (list_any (λ c. eqb c 46) w) || is_natural (after_point w))) (ap is_natural (sym is) ∙ natural)
      ∙ ap (λ (v : Bool). not v || is_natural (after_point w)) e

  pub whole_form : n ≡ length w → has_time_form w ≡ true
  whole_form all = form_with false (no_point w (let l = front_len in omega arith))

  pub pointed_form : (n ≡ length w → ⊥) → has_time_form w ≡ is_natural (after_point w)
  pointed_form more = form_with true (a_point w (let l = front_len in let m = more in omega arith))

either : (x y : Bool) → (x || y) ≡ true → (x ≡ true) ⊎ (y ≡ true)
either true y h = inl refl
either false y h = inr h

not_true : (x : Bool) → not x ≡ true → x ≡ false
not_true true h = sym h
not_true false h = refl

pub form_parts : (w : List ℕ) → has_time_form w ≡ true → (is_natural (before_point w) ≡ true) × (list_all is_ascii_digit (after_point w) ≡ true)
form_parts w h =
    let p = and_parts (is_natural (before_point w)) (not (list_any (λ c. eqb c 46) w) || is_natural (after_point w)) h in (
      p.0,
      elim (either (not (list_any (λ c. eqb c 46) w)) (is_natural (after_point w)) p.1) as (λ v. list_all is_ascii_digit (after_point w) ≡ true) [
        | inl none ↦ ap (list_all is_ascii_digit) (nothing_after w (not_true (list_any (λ c. eqb c 46) w) none))
        | inr digits ↦ (natural_parts (after_point w) digits).0
      ],
    )

pub ticks_is : (scale : ℕ) (w : List ℕ) → has_time_form w ≡ true → ticks_of scale w ≡ below (2 ^ 32) (option_map (λ p. digits_value 10 (before_point w) * scale + p) (exact (digits_value 10 (after_point w) * scale) (10 ^ length (after_point w))))
unfolding time_of
ticks_is scale w form =
    let b : ℕ = digits_value 10 (before_point w) in
    let a : ℕ = digits_value 10 (after_point w) in
    let l : ℕ = 10 ^ length (after_point w) in
    let v : digits_value 10 (before_point w ++ after_point w) ≡ b * l + a = value_append (before_point w) (after_point w) in
    let e : (b * l + a) * scale ≡ b * scale * l + a * scale = omega arith in
    ap (λ (t : Bool). below (2 ^ 32) (cond t (exact (digits_value 10 (before_point w ++ after_point w) * scale) l) None)) form
    ∙ ap (λ (x : ℕ). below (2 ^ 32) (exact (x * scale) l)) v
    ∙ ap (λ (x : ℕ). below (2 ^ 32) (exact x l)) e
    ∙ ap (below (2 ^ 32)) (exact_beside (b * scale) (a * scale) l (ten_pos (length (after_point w))))

pub no_ticks : (scale : ℕ) (w : List ℕ) → has_time_form w ≡ false → ticks_of scale w ≡ None
unfolding time_of
no_ticks scale w form = ap (λ (t : Bool). below (2 ^ 32) (cond t (exact (digits_value 10 (before_point w ++ after_point w) * scale) (10 ^ length (after_point w))) None)) form

-- ---- the sum

below_none : (limit n : ℕ) → limit ≤ n → below limit (Some n) ≡ None
below_none limit n le = let t : nat_lt n limit ≡ false = grind (arith, nat_tests) in rw t refl

below_some : (limit n : ℕ) → n < limit → below limit (Some n) ≡ Some n
below_some limit n lt = let t : nat_lt n limit ≡ true = grind (arith, nat_tests) in rw t refl

too_large : (limit a : ℕ) (o : Option ℕ) → limit ≤ a → None ≡ below limit (option_map (λ p. a + p) o)
too_large limit a None le = refl
too_large limit a (Some p) le = sym (below_none limit (a + p) (omega arith))

cond_some : (t : Bool) (x v : ℕ) → cond t (Some x) None ≡ Some v → x ≡ v
cond_some true x v h = cc
cond_some false x v h = absurd cc

cond_none : (t : Bool) (x : ℕ) → cond t (Some x) None ≡ None → t ≡ false
cond_none true x h = absurd cc
cond_none false x h = refl

not_below : (n limit : ℕ) → nat_lt n limit ≡ false → limit ≤ n
not_below n limit h = grind (arith, nat_tests)

at_least : (n limit : ℕ) → (n < limit → ⊥) → limit ≤ n
at_least n limit h = elim (cases_lt n limit) as (λ v. limit ≤ n) [ inl lt ↦ absurd (h lt) | inr le ↦ le ]

grown : (v scale limit : ℕ) → 0 < scale → limit ≤ v → limit ≤ v * scale
grown v zero limit some le = absurd (omega arith)
grown v (suc k) limit some le = omega arith

missing : (r : Option ℕ) (P : Type 0) (n : ℕ) → SomeIff r P n → r ≡ None → P → ⊥
missing None P n h e = h
missing (Some x) P n h e = absurd cc

there : (r : Option ℕ) (P : Type 0) (n v : ℕ) → SomeIff r P n → r ≡ Some v → v ≡ n
there None P n v h e = absurd cc
there (Some x) P n v h e = let f : x ≡ v = cc in sym f ∙ h.1

decided_sum : (limit n : ℕ) (r : Option ℕ) → SomeIff r (n < limit) n → r ≡ below limit (Some n)
decided_sum limit n None h = elim (cases_lt n limit) as (λ v. None ≡ below limit (Some n)) [ inl lt ↦ absurd (h lt) | inr le ↦ sym (below_none limit n le) ]
decided_sum limit n (Some x) h = ap (λ (y : ℕ). Some y) h.1 ∙ sym (below_some limit n h.0)

module _ (scale : ℕ) (w : List ℕ) (form : has_time_form w ≡ true) where
  pub whole_fails : 0 < scale → natural_below (2 ^ 32) (before_point w) ≡ None → None ≡ ticks_of scale w
  whole_fails some none =
      let v : ℕ = digits_value 10 (before_point w) in
      let le : 2 ^ 32 ≤ v = not_below v (2 ^ 32) (cond_none _ v (sym (spelled (2 ^ 32) (before_point w) (form_parts w form).0) ∙ none)) in
      too_large (2 ^ 32) (v * scale) (exact (digits_value 10 (after_point w) * scale) (10 ^ length (after_point w))) (grown v scale (2 ^ 32) some le) ∙ sym (ticks_is scale w form)

  pub part_fails : exact (digits_value 10 (after_point w) * scale) (10 ^ length (after_point w)) ≡ None → None ≡ ticks_of scale w
  part_fails none = sym (ticks_is scale w form ∙ ap (λ (o : Option ℕ). below (2 ^ 32) (option_map (λ p. digits_value 10 (before_point w) * scale + p) o)) none)

  whole_is : (v : ℕ) → natural_below (2 ^ 32) (before_point w) ≡ Some v → digits_value 10 (before_point w) ≡ v
  whole_is v h = cond_some _ (digits_value 10 (before_point w)) v (sym (spelled (2 ^ 32) (before_point w) (form_parts w form).0) ∙ h)

  module _ (v factor : ℕ) (m : Option ℕ) (natural : natural_below (2 ^ 32) (before_point w) ≡ Some v) (is : factor ≡ scale) (product : SomeIff m (v * factor < 2 ^ 32) (v * factor)) where
    product_is : v * factor ≡ digits_value 10 (before_point w) * scale
    product_is = ap (λ (x : ℕ). v * x) is ∙ ap (λ (x : ℕ). x * scale) (sym (whole_is v natural))

    pub product_fails : m ≡ None → None ≡ ticks_of scale w
    product_fails none =
        let e = product_is in
        let le : 2 ^ 32 ≤ v * factor = at_least (v * factor) (2 ^ 32) (missing m (v * factor < 2 ^ 32) (v * factor) product none) in
        too_large (2 ^ 32) (digits_value 10 (before_point w) * scale) (exact (digits_value 10 (after_point w) * scale) (10 ^ length (after_point w))) (omega (arith, e, le)) ∙ sym (ticks_is scale w form)

    pub sum_gives : (q p : ℕ) (r : Option ℕ) → exact (digits_value 10 (after_point w) * scale) (10 ^ length (after_point w)) ≡ Some p → m ≡ Some q → SomeIff r (q + p < 2 ^ 32) (q + p) → r ≡ ticks_of scale w
    sum_gives q p r parted multiplied sum =
        let e : q ≡ digits_value 10 (before_point w) * scale = there m (v * factor < 2 ^ 32) (v * factor) q product multiplied ∙ product_is in
        decided_sum (2 ^ 32) (q + p) r sum
        ∙ ap (λ (x : ℕ). below (2 ^ 32) (Some (x + p))) e
        ∙ ap (λ (o : Option ℕ). below (2 ^ 32) (option_map (λ (x : ℕ). digits_value 10 (before_point w) * scale + x) o)) (sym parted)
        ∙ sym (ticks_is scale w form)
