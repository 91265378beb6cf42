-- Numbers that were read are spelled by their decimals.
use Rattle.std.proofs.Common.{◌≡◌, ℕ, zero, suc, ◌+◌, ◌^◌, ◌<◌, List, [], ◌∷◌, length, Bool, true, false, cond, ◌&&◌, nat_lt, eqb, get_or, decimal, Some, None, option_map, codes, refl, sym, ap, ◌∙◌, subst, arith, lit<, lit≤}
use Rattle.std.specs.Fmt.{signed_decimal}
use Rattle.std.specs.List.{list_all, AllByRecursion}
use Rattle.std.specs.Char.{is_ascii_digit, to_ascii_lowercase}
use Rattle.std.specs.Str.Parse.{digits_value}
use Rattle.std.proofs.lemmas.Bool.{and_parts, lt-ltb, ltb-true}
use Rattle.std.proofs.lemmas.Bool.Decides.{nat_tests}
use Rattle.std.proofs.lemmas.Fmt.{digits_decimal, digits_value-decimal, decimal_nonempty}
use lib.IntN.{ℤ, pos, negsuc, neg_ℤ}
use Rattle.tp_text.specs.Numbers.{before_point, after_point, all_zeros, is_natural, natural_below, signed, whole_of}
use Rattle.tp_text.specs.Texts.{IsWord}
use Rattle.tp_text.proofs.OnNumbers.{own, spelled}
use Rattle.tp_text.proofs.OnWords.{IsWordByte, bytes_word}
use Rattle.tp_syntax_ast.specs.Words.{lower, is_word}
use Rattle.tp_syntax_ast.specs.Terms.{is_name, is_variable}
use Rattle.tp_syntax_print.proofs.OnPrintingWords.{cond_some, map_some, no_some, some_is}
use Rattle.tp_syntax_print.proofs.OnPrintingLists.{bytes_differ}

-- ---- which numbers are read

abbrev InRange : ℤ → Type 0
InRange (pos k) = k < 2 ^ 63
InRange (negsuc k) = suc k < 2 ^ 63 + 1

natural_range : (limit : ℕ) (ds : List ℕ) (n : ℕ) → natural_below limit ds ≡ Some n → n < limit
natural_range limit ds n h =
    let c = cond_some (is_natural ds && nat_lt (digits_value 10 ds) limit) (Some (digits_value 10 ds)) n h in
    let p = and_parts (is_natural ds) (nat_lt (digits_value 10 ds) limit) c.0 in
    subst (λ (m : ℕ). m < limit) (some_is (digits_value 10 ds) n c.1) (ltb-true (digits_value 10 ds) limit p.1)

negative_range : (k : ℕ) → k < 2 ^ 63 + 1 → InRange (neg_ℤ (pos k))
negative_range zero h = lit< tt
negative_range (suc k) h = h

sign_range : (b : Bool) (ds es : List ℕ) (n : ℤ) → cond b (option_map (λ m. neg_ℤ (pos m)) (natural_below (2 ^ 63 + 1) ds)) (option_map pos (natural_below (2 ^ 63) es)) ≡ Some n → InRange n
sign_range true ds es n h =
    let m = map_some (λ k. neg_ℤ (pos k)) (natural_below (2 ^ 63 + 1) ds) n h in
    subst InRange m.2 (negative_range m.0 (natural_range (2 ^ 63 + 1) ds m.0 m.1))
sign_range false ds es n h =
    let m = map_some pos (natural_below (2 ^ 63) es) n h in
    subst InRange m.2 (natural_range (2 ^ 63) es m.0 m.1)

signed_range : (ds : List ℕ) (n : ℤ) → signed ds ≡ Some n → InRange n
unfolding signed
signed_range [] n h = no_some h
signed_range (b ∷ bs) n h = sign_range (eqb b 45) bs (b ∷ bs) n h

-- ---- digits

abbrev AreDigits : List ℕ → Type 0
AreDigits ds = list_all is_ascii_digit ds ≡ true

no_point : (b : ℕ) → is_ascii_digit b ≡ true → eqb b 46 ≡ false
no_point b h = grind (arith, nat_tests)

no_minus : (b : ℕ) → is_ascii_digit b ≡ true → eqb b 45 ≡ false
no_minus b h = grind (arith, nat_tests)

all_before : (ds : List ℕ) → AreDigits ds → before_point ds ≡ ds
all_before [] h = refl
all_before (b ∷ ds) h =
    let p = and_parts (is_ascii_digit b) (list_all is_ascii_digit ds) h in
    ap (λ (t : Bool). cond t [] (b ∷ before_point ds)) (no_point b p.0) ∙ ap (λ (es : List ℕ). b ∷ es) (all_before ds p.1)

none_after : (ds : List ℕ) → AreDigits ds → after_point ds ≡ []
none_after [] h = refl
none_after (b ∷ ds) h =
    let p = and_parts (is_ascii_digit b) (list_all is_ascii_digit ds) h in
    ap (λ (t : Bool). cond t ds (after_point ds)) (no_point b p.0) ∙ none_after ds p.1

natural : (ds : List ℕ) → AreDigits ds → 0 < length ds → is_natural ds ≡ true
natural [] h some = absurd (omega arith)
natural (b ∷ ds) h some = h

natural_again : (limit k : ℕ) → k < limit → k < 2 ^ 64 → natural_below limit (decimal k) ≡ Some k
natural_again limit k lt small =
    let v = digits_value-decimal own k small in
    spelled limit (decimal k) (natural (decimal k) (digits_decimal own k small) (decimal_nonempty k small))
    ∙ ap (λ (n : ℕ). cond (nat_lt n limit) (Some n) None) v
    ∙ ap (λ (t : Bool). cond t (Some k) None) (lt-ltb k limit lt)

plain_signed : (ds : List ℕ) (k : ℕ) → AreDigits ds → natural_below (2 ^ 63) ds ≡ Some k → signed ds ≡ Some (pos k)
unfolding signed
plain_signed [] k h is = no_some is
plain_signed (b ∷ bs) k h is =
    let p = and_parts (is_ascii_digit b) (list_all is_ascii_digit bs) h in
    ap (λ (t : Bool). cond t (option_map (λ m. neg_ℤ (pos m)) (natural_below (2 ^ 63 + 1) bs)) (option_map pos (natural_below (2 ^ 63) (b ∷ bs)))) (no_minus b p.0)
    ∙ ap (option_map pos) is

minus_signed : (ds : List ℕ) (k : ℕ) → natural_below (2 ^ 63 + 1) ds ≡ Some (suc k) → signed (45 ∷ ds) ≡ Some (negsuc k)
unfolding signed
minus_signed ds k is = ap (option_map (λ m. neg_ℤ (pos m))) is

digit_byte : (b : ℕ) → is_ascii_digit b ≡ true → IsWordByte b
digit_byte b h = (
  grind (arith, nat_tests),
  grind (arith, nat_tests),
  λ e. let f : is_ascii_digit 40 ≡ true = ap is_ascii_digit (sym e) ∙ h in cc,
  λ e. let f : is_ascii_digit 41 ≡ true = ap is_ascii_digit (sym e) ∙ h in cc,
  λ e. let f : is_ascii_digit 59 ≡ true = ap is_ascii_digit (sym e) ∙ h in cc,
)

digit_bytes : (ds : List ℕ) → AreDigits ds → AllByRecursion IsWordByte ds
digit_bytes [] h = tt
digit_bytes (b ∷ ds) h =
    let p = and_parts (is_ascii_digit b) (list_all is_ascii_digit ds) h in
    (digit_byte b p.0, digit_bytes ds p.1)

digits_word : (ds : List ℕ) → AreDigits ds → 0 < length ds → IsWord ds
digits_word [] h some = absurd (omega arith)
digits_word (b ∷ ds) h some = bytes_word b ds (digit_bytes (b ∷ ds) h)

minus_word : (ds : List ℕ) → AreDigits ds → IsWord (45 ∷ ds)
minus_word ds h = bytes_word 45 ds ((lit≤ tt, lit≤ tt, λ e. omega (arith, e), λ e. omega (arith, e), λ e. omega (arith, e)), digit_bytes ds h)

-- ---- what a number's word is not

digit_no_mark : (b : ℕ) → is_ascii_digit b ≡ true → to_ascii_lowercase b ≡ 63 → ⊥
digit_no_mark b h e = grind (arith, nat_tests)

digit_no_letter : (b : ℕ) (w : List ℕ) → is_ascii_digit b ≡ true → is_name (b ∷ w) ≡ false
digit_no_letter b w h = grind (arith, nat_tests)

digit_no_variable : (b : ℕ) (w : List ℕ) → is_ascii_digit b ≡ true → is_variable (b ∷ w) ≡ false
digit_no_variable b w h = grind (arith, nat_tests)

pub record IsNumber (n : ℤ) : Type 0 where
  pub again : whole_of (signed_decimal n) ≡ Some n
  pub words : IsWord (signed_decimal n)
  pub no_duration : is_word (codes "?duration") (signed_decimal n) ≡ false
  pub no_name : is_name (signed_decimal n) ≡ false
  pub no_variable : is_variable (signed_decimal n) ≡ false

no_duration_word : (ds : List ℕ) → AreDigits ds → 0 < length ds → is_word (codes "?duration") ds ≡ false
unfolding is_word
no_duration_word [] h some = absurd (omega arith)
no_duration_word (b ∷ ds) h some =
    let p = and_parts (is_ascii_digit b) (list_all is_ascii_digit ds) h in
    bytes_differ (lower (b ∷ ds)) (codes "?duration") (λ e. digit_no_mark b p.0 (ap (λ (w : List ℕ). get_or w 0 0) e))

no_name_word : (ds : List ℕ) → AreDigits ds → is_name ds ≡ false
no_name_word [] h = refl
no_name_word (b ∷ ds) h = digit_no_letter b ds (and_parts (is_ascii_digit b) (list_all is_ascii_digit ds) h).0

no_variable_word : (ds : List ℕ) → AreDigits ds → is_variable ds ≡ false
no_variable_word [] h = refl
no_variable_word (b ∷ ds) h = digit_no_variable b ds (and_parts (is_ascii_digit b) (list_all is_ascii_digit ds) h).0

no_minus_duration : (ds : List ℕ) → is_word (codes "?duration") (45 ∷ ds) ≡ false
unfolding is_word
no_minus_duration ds = bytes_differ (lower (45 ∷ ds)) (codes "?duration") (λ e. let f : 45 ≡ 63 = ap (λ (w : List ℕ). get_or w 0 0) e in omega (arith, f))

whole_again : (ds : List ℕ) (n : ℤ) → before_point ds ≡ ds → after_point ds ≡ [] → signed ds ≡ Some n → whole_of ds ≡ Some n
whole_again ds n before after is =
    ap (λ (es : List ℕ). cond (all_zeros es) (signed (before_point ds)) None) after ∙ ap signed before ∙ is

in_range_number : (n : ℤ) → InRange n → IsNumber n
in_range_number (pos k) lt =
    let small : k < 2 ^ 64 = omega arith in
    let digits = digits_decimal own k small in
    let some = decimal_nonempty k small in
    record {
      again = whole_again (decimal k) (pos k) (all_before (decimal k) digits) (none_after (decimal k) digits) (plain_signed (decimal k) k digits (natural_again (2 ^ 63) k lt small));
      words = digits_word (decimal k) digits some;
      no_duration = no_duration_word (decimal k) digits some;
      no_name = no_name_word (decimal k) digits;
      no_variable = no_variable_word (decimal k) digits;
    }
in_range_number (negsuc k) lt =
    let small : suc k < 2 ^ 64 = omega arith in
    let digits = digits_decimal own (suc k) small in
    let ds = decimal (suc k) in
    record {
      again = whole_again (45 ∷ ds) (negsuc k) (ap (λ (es : List ℕ). 45 ∷ es) (all_before ds digits)) (none_after ds digits) (minus_signed ds k (natural_again (2 ^ 63 + 1) (suc k) lt small));
      words = minus_word ds digits;
      no_duration = no_minus_duration ds;
      no_name = refl;
      no_variable = refl;
    }

pub number_read : (w : List ℕ) (n : ℤ) → whole_of w ≡ Some n → IsNumber n
number_read w n h =
    let c = cond_some (all_zeros (after_point w)) (signed (before_point w)) n h in
    in_range_number n (signed_range (before_point w) n c.1)
