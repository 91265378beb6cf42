-- Numbers as std's parse reads them.
use Rattle.std.proofs.Common.{◌≡◌, ℕ, ◌+◌, ◌-◌, ◌^◌, ◌<◌, ◌≤◌, List, [], ◌∷◌, length, take, drop, Bool, true, false, cond, nat_lt, Some, None, option_map, Result, Ok, Err, refl, sym, ap, ◌∙◌, arith, slice_index_or, w64, eqb, rules}
use Rattle.std.specs.Prelude.{IsTrue, ◌&&◌}
use Rattle.std.specs.Str.{IsAscii}
use Rattle.std.specs.List.{list_all}
use Rattle.std.specs.Char.{is_ascii_digit}
use Rattle.std.specs.Str.Parse.{digits_value, ParsesSigned}
use Rattle.std.specs.Result.{OkIff, result_ok}
use Rattle.std.proofs.lemmas.List.{take_rest}
use Rattle.std.proofs.lemmas.Str.Ascii.{IsAscii-cons}
use Rattle.std.proofs.lemmas.Fmt.{IsAscii-from_digits}
use Rattle.std.proofs.lemmas.Str.Parse.{IsNumeralModel, numerals_by_value, parse_signed_plain, parse_signed_minus}
use Rattle.std.proofs.lemmas.Bool.Decides.{nat_tests}
use lib.IntN.{ℤ, pos, neg_ℤ}
use Rattle.tp_text.specs.Numbers.{is_natural, natural_below, signed}

pub own : IsNumeralModel (λ ds. list_all is_ascii_digit ds ≡ true) (digits_value 10)
own = numerals_by_value _ (search rules)

pub natural_parts : (ds : List ℕ) → is_natural ds ≡ true → (list_all is_ascii_digit ds ≡ true) × (0 < length ds)
natural_parts [] h = cc
natural_parts (b ∷ bs) h = (h, omega arith)

pub natural_ascii : (ds : List ℕ) → is_natural ds ≡ true → IsAscii ds
natural_ascii ds h = IsAscii-from_digits ds (own.to ds (natural_parts ds h).0)

pub minus_ascii : (bs : List ℕ) → 1 ≤ length bs → slice_index_or bs 0 0 ≡ 45 → is_natural (take (length bs - 1) (drop 1 bs)) ≡ true → IsAscii bs
minus_ascii [] le is nat = absurd (omega arith)
minus_ascii (b ∷ bs) le is nat = IsAscii-cons b bs (omega (arith, is)) (natural_ascii bs (ap is_natural (sym (take_rest (b ∷ bs) 1)) ∙ nat))

pub decided : {A E : Type 0} (r : Result A E) (q : Bool) (Q : Type 0) (x : A) → OkIff r Q x → (IsTrue q → Q) → (Q → IsTrue q) → result_ok r ≡ cond q (Some x) None
decided (Ok y) true Q x h to from = ap Some h.1
decided (Ok y) false Q x h to from = let f : false ≡ true = from h.0 in cc
decided (Err e) true Q x h to from = absurd (h (to refl))
decided (Err e) false Q x h to from = refl

through : {A B : Type 0} (f : A → B) (q : Bool) (x : A) → cond q (Some (f x)) None ≡ option_map f (cond q (Some x) None)
through f true x = refl
through f false x = refl

pub spelled : (limit : ℕ) (ds : List ℕ) → is_natural ds ≡ true → natural_below limit ds ≡ cond (nat_lt (digits_value 10 ds) limit) (Some (digits_value 10 ds)) None
spelled limit ds h = ap (λ (b : Bool). cond (b && nat_lt (digits_value 10 ds) limit) (Some (digits_value 10 ds)) None) h

pub below_is : (n limit : ℕ) → IsTrue (nat_lt n limit) → n < limit
below_is n limit h = grind (arith, nat_tests)

pub is_below : (n limit : ℕ) → n < limit → IsTrue (nat_lt n limit)
is_below n limit h = grind (arith, nat_tests)

pub minus_read : {E : Type 0} (bs : List ℕ) (r : Result ℤ E) → 1 ≤ length bs → slice_index_or bs 0 0 ≡ 45 → is_natural (take (length bs - 1) (drop 1 bs)) ≡ true → ParsesSigned w64 10 bs r → result_ok r ≡ signed bs
unfolding signed
minus_read [] r le is nat parsed = absurd (omega arith)
minus_read (b ∷ bs) r le is nat parsed =
    let digits : is_natural bs ≡ true = ap is_natural (sym (take_rest (b ∷ bs) 1)) ∙ nat in
    let parts = natural_parts bs digits in
    let v : ℕ = digits_value 10 bs in
    let is45 : eqb b 45 ≡ true = ap (λ (x : ℕ). eqb x 45) is in
    decided r (nat_lt v (2 ^ 63 + 1)) _ (neg_ℤ (pos v)) (parse_signed_minus own w64 (b ∷ bs) r parsed is) (λ h. let lt = below_is v (2 ^ 63 + 1) h in (parts.0, parts.1, omega arith)) (λ q. is_below v (2 ^ 63 + 1) (let le2 = q.2 in omega arith))
    ∙ through (λ n. neg_ℤ (pos n)) (nat_lt v (2 ^ 63 + 1)) v
    ∙ ap (option_map (λ n. neg_ℤ (pos n))) (sym (spelled (2 ^ 63 + 1) bs digits))
    ∙ ap (λ (t : Bool). cond t (option_map (λ n. neg_ℤ (pos n)) (natural_below (2 ^ 63 + 1) bs)) (option_map pos (natural_below (2 ^ 63) (b ∷ bs)))) (sym is45)

no_plus : (b : ℕ) (bs : List ℕ) → is_natural (b ∷ bs) ≡ true → b ≡ 43 → ⊥
no_plus b bs h e = let f : is_natural (43 ∷ bs) ≡ true = ap (λ (x : ℕ). is_natural (x ∷ bs)) (sym e) ∙ h in cc

pub plain_read : {E : Type 0} (bs : List ℕ) (r : Result ℤ E) → 1 ≤ length bs → (slice_index_or bs 0 0 ≡ 45 → ⊥) → is_natural bs ≡ true → ParsesSigned w64 10 bs r → result_ok r ≡ signed bs
unfolding signed
plain_read [] r le is nat parsed = absurd (omega arith)
plain_read (b ∷ bs) r le is nat parsed =
    let parts = natural_parts (b ∷ bs) nat in
    let v : ℕ = digits_value 10 (b ∷ bs) in
    let not45 : eqb b 45 ≡ false = grind (arith, nat_tests) in
    decided r (nat_lt v (2 ^ 63)) _ (pos v) (parse_signed_plain own w64 (b ∷ bs) r parsed (no_plus b bs nat) is) (λ h. (parts.0, parts.1, below_is v (2 ^ 63) h)) (λ q. is_below v (2 ^ 63) q.2)
    ∙ through pos (nat_lt v (2 ^ 63)) v
    ∙ ap (option_map pos) (sym (spelled (2 ^ 63) (b ∷ bs) nat))
    ∙ ap (λ (t : Bool). cond t (option_map (λ n. neg_ℤ (pos n)) (natural_below (2 ^ 63 + 1) bs)) (option_map pos (natural_below (2 ^ 63) (b ∷ bs)))) (sym not45)
