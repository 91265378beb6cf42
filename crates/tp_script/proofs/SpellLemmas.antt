-- Words written one after another are read as these words, and numbers as these numbers.
use Rattle.std.proofs.Common.{◌≡◌, cond, ℕ, ◌+◌, ◌-◌, ◌*◌, ◌^◌, ◌/◌, ◌%◌, ◌<◌, ◌≤◌, true, false, List, [], ◌∷◌, ◌++◌, length, Some, refl, ap, ◌∙◌, arith, decimal}
use Rattle.std.proofs.lemmas.Fmt.{decimal_by_steps, decimal_nonempty, length-decimal-le}
use Rattle.std.proofs.lemmas.Bool.Decides.{nat_tests}
use Rattle.std.specs.Prelude.{nat_le}
use Rattle.std.specs.List.{list_all}
use Rattle.tp_script.specs.Words.{words_of, number_of, is_blank, is_digit, value_from, joined}
use Rattle.tp_script.specs.Commands.{event_of, moment_of}

-- ---- words without blanks

abbrev pub Solid : List ℕ → Type 0
Solid [] = Unit {0}
Solid (b ∷ bs) = (is_blank b ≡ false) × Solid bs

abbrev pub Gap : List ℕ → Type 0
Gap [] = Unit {0}
Gap (b ∷ bs) = is_blank b ≡ true

alone : (b c : ℕ) (bs : List ℕ) (ws : List (List ℕ)) → is_blank c ≡ true → joined b (c ∷ bs) ws ≡ (b ∷ []) ∷ ws
alone b c bs [] h = refl
alone b c bs (w ∷ ws) h = ap (λ t. cond t ((b ∷ []) ∷ w ∷ ws) ((b ∷ w) ∷ ws)) h

pub word_then : (b : ℕ) (bs rest : List ℕ) → is_blank b ≡ false → Solid bs → Gap rest → words_of ((b ∷ bs) ++ rest) ≡ (b ∷ bs) ∷ words_of rest
word_then b [] [] first solid gap = ap (λ t. cond t [] (joined b [] [])) first
word_then b [] (r ∷ rs) first solid gap =
    ap (λ t. cond t (words_of (r ∷ rs)) (joined b (r ∷ rs) (words_of (r ∷ rs)))) first ∙ alone b r rs (words_of (r ∷ rs)) gap
word_then b (c ∷ cs) rest first solid gap =
    ap (λ t. cond t (words_of (c ∷ (cs ++ rest))) (joined b (c ∷ (cs ++ rest)) (words_of (c ∷ (cs ++ rest))))) first
    ∙ (ap (joined b (c ∷ (cs ++ rest))) (word_then c cs rest solid.0 solid.1 gap)
    ∙ ap (λ t. cond t ((b ∷ []) ∷ (c ∷ cs) ∷ words_of rest) ((b ∷ c ∷ cs) ∷ words_of rest)) solid.0)

-- a word of any letters before what follows it
pub solid_then : (xs rest : List ℕ) → 0 < length xs → Solid xs → Gap rest → words_of (xs ++ rest) ≡ xs ∷ words_of rest
solid_then [] rest some solid gap = absurd (let f : ⊥ = omega arith in f)
solid_then (b ∷ bs) rest some solid gap = word_then b bs rest solid.0 solid.1 gap

pub solid_more : (xs ys : List ℕ) → Solid xs → Solid ys → Solid (xs ++ ys)
solid_more [] ys p q = q
solid_more (x ∷ xs) ys p q = (p.0, solid_more xs ys p.1 q)

no_blank : (b : ℕ) → 48 ≤ b → is_blank b ≡ false
no_blank b h = grind (arith, nat_tests)

pub decimal_solid : (n : ℕ) → n < 2 ^ 64 → Solid (decimal n)
decimal_solid = decimal_by_steps (λ n ds. Solid ds)
    (λ n lt. (no_blank (48 + n) (omega arith), tt))
    (λ n ds le h. solid_more ds ((48 + n % 10) ∷ []) h (no_blank (48 + n % 10) (omega arith), tt))

pub decimal_then : (n : ℕ) (rest : List ℕ) → n < 2 ^ 64 → Gap rest → words_of (decimal n ++ rest) ≡ decimal n ∷ words_of rest
decimal_then n rest small gap = solid_then (decimal n) rest (decimal_nonempty n small) (decimal_solid n small) gap

-- ---- a number written is read

value_more : (k d : ℕ) (ds : List ℕ) → value_from k (ds ++ (48 + d) ∷ []) ≡ 10 * value_from k ds + d
value_more k d [] = let f : (48 + d) - 48 ≡ d = omega arith in ap (λ x. 10 * k + x) f
value_more k d (b ∷ bs) = value_more (10 * k + (b - 48)) d bs

decimal_value : (n : ℕ) → n < 2 ^ 64 → value_from 0 (decimal n) ≡ n
decimal_value = decimal_by_steps (λ n ds. value_from 0 ds ≡ n)
    (λ n lt. (let f : 10 * 0 + ((48 + n) - 48) ≡ n = omega arith in f))
    (λ n ds le h. (let e : value_from 0 (ds ++ (48 + n % 10) ∷ []) ≡ 10 * value_from 0 ds + n % 10 = value_more 0 (n % 10) ds in let f : 10 * (n / 10) + n % 10 ≡ n = grind arith in e ∙ (ap (λ x. 10 * x + n % 10) h ∙ f)))

digit_is : (d : ℕ) → d < 10 → is_digit (48 + d) ≡ true
digit_is d h = grind (arith, nat_tests)

all_more : (xs : List ℕ) (b : ℕ) → list_all is_digit xs ≡ true → is_digit b ≡ true → list_all is_digit (xs ++ b ∷ []) ≡ true
all_more [] b p q = rw q refl
all_more (x ∷ xs) b p q = let r : list_all is_digit xs ≡ true → list_all is_digit (xs ++ b ∷ []) ≡ true = λ h. all_more xs b h q in grind (arith, r)

pub decimal_digits : (n : ℕ) → n < 2 ^ 64 → list_all is_digit (decimal n) ≡ true
decimal_digits = decimal_by_steps (λ n ds. list_all is_digit ds ≡ true)
    (λ n lt. rw (digit_is n lt) refl)
    (λ n ds le h. all_more ds (48 + n % 10) h (digit_is (n % 10) (omega arith)))

pub number_back : (n : ℕ) → n < 10 ^ 10 → number_of (decimal n) ≡ Some n
number_back n lt =
    let small : n < 2 ^ 64 = omega arith in
    let some : 0 < length (decimal n) = decimal_nonempty n small in
    let few : length (decimal n) ≤ 10 = length-decimal-le 10 n (omega arith) lt small in
    let a : nat_le 1 (length (decimal n)) ≡ true = grind (arith, nat_tests) in
    let b : nat_le (length (decimal n)) 10 ≡ true = grind (arith, nat_tests) in
    rw (a, b, decimal_digits n small, decimal_value n small) refl

pub moment_back : (n : ℕ) → n ≤ 4_294_967_295 → moment_of (decimal n) ≡ Some n
moment_back n le = let a : nat_le n 4_294_967_295 ≡ true = grind (arith, nat_tests) in rw (number_back n (omega arith), a) refl

pub event_back : (n : ℕ) → n ≤ 65_535 → event_of (decimal n) ≡ Some n
event_back n le = let a : nat_le n 65_535 ≡ true = grind (arith, nat_tests) in rw (number_back n (omega arith), a) refl
