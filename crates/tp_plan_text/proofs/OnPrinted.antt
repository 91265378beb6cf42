-- What is written for a plan spells it.
use Rattle.std.proofs.Common.{◌≡◌, ℕ, ◌+◌, ◌*◌, ◌/◌, ◌%◌, ◌^◌, ◌<◌, ◌≤◌, Bool, true, false, cond, eqb, List, [], ◌∷◌, ◌++◌, length, map, flat_map, refl, sym, ap, ◌∙◌, append_assoc, append-nil, length-append, arith, Option, Some, None, option_map, Ok, Err, codes}
use Rattle.std.specs.Prelude.{◌&&◌, ◌||◌, not, nat_le, decimal}
use Rattle.std.specs.List.{AllByRecursion, list_all, list_any}
use Rattle.std.specs.Char.{is_ascii_digit, is_ascii_alphabetic, to_ascii_lowercase, digit_value}
use Rattle.std.specs.Str.Parse.{digits_value}
use Rattle.std.proofs.lemmas.Bool.{ne_eqb}
use Rattle.std.proofs.lemmas.Bool.Decides.{nat_tests}
use Rattle.std.proofs.lemmas.Fmt.{digits_decimal, digits_value-decimal, decimal_nonempty}
use Rattle.std.proofs.lemmas.List.{map-append}
use Rattle.tp_text.specs.Numbers.{before_point, after_point, is_natural, has_time_form, exact, below, ticks_of}
use Rattle.tp_text.specs.Scales.{scale_ticks}
use Rattle.tp_text.specs.declared.number.Scale.{Scale}
use Rattle.tp_text.specs.declared.number.Scale.TheVariants.{One, Ten, Hundred, Thousand}
use Rattle.tp_text.proofs.OnNumbers.{own}
use Rattle.tp_text.proofs.OnTimes.{exact_some, digit_is, ticks_is}
use Rattle.tp_syntax_ast.specs.Terms.{is_inner, is_name}
use Rattle.tp_task.specs.Readable.{are_names}
use Rattle.tp_task.specs.declared.task.ActionId.{ActionId}
use Rattle.tp_plan_text.specs.declared.tokens.ByteKind.TheVariants.{Blank, Letter, Alone}
use Rattle.tp_plan_text.specs.declared.plans.Step.{Step}
use Rattle.tp_plan_text.specs.declared.reading.Wrong.TheVariants as wrong
use Rattle.tp_plan_text.specs.PlanLexemes.{word, sign, kind, is_letter, begins_word, is_bare, lexemes}
use Rattle.tp_plan_text.specs.PlanForms.{Form, written, bracketed, form_of, is_well_formed}
use Rattle.tp_plan_text.specs.PlanTexts.{ReadableTask, lines_of, full_lines, timed, lasting, acting, formed, step_of}
use Rattle.tp_plan_text.specs.PlanPrints.{digit, decimals, time_text, words_text, end_text, step_text, plan_text, IsReadable, PlansAreRead}
use Rattle.tp_plan_text.proofs.OnLexemes.{lexeme_step, run_is_word}
use Rattle.tp_plan_text.proofs.OnPlans.{line_cut}
use Rattle.tp_plan_text.proofs.OnWritten.{form_read}

-- ---- tests

and_parts : (a b : Bool) → a && b ≡ true → (a ≡ true) × (b ≡ true)
and_parts true b h = (refl, h)
and_parts false b h = absurd (let no : ⊥ = cc in no)

or_true : (a : Bool) → (a || true) ≡ true
or_true true = refl
or_true false = refl

all_append : (P : ℕ → Type 0) (xs ys : List ℕ) → AllByRecursion P xs → AllByRecursion P ys → AllByRecursion P (xs ++ ys)
all_append P [] ys all more = more
all_append P (x ∷ xs) ys all more = (all.0, all_append P xs ys all.1 more)

all_weaker : (P Q : ℕ → Type 0) → ((x : ℕ) → P x → Q x) → (xs : List ℕ) → AllByRecursion P xs → AllByRecursion Q xs
all_weaker P Q f [] all = tt
all_weaker P Q f (x ∷ xs) all = (f x all.0, all_weaker P Q f xs all.1)

-- ---- bytes

-- a byte of a line of a plan, in lower case
record Plain (c : ℕ) : Type 0 where
  pub free : c ≡ 10 → ⊥
  pub lower : to_ascii_lowercase c ≡ c

-- a byte of a time
record Timely (c : ℕ) : Type 0 where
  pub letter : kind c ≡ Letter
  pub plain : Plain c

digit_letter : (c : ℕ) → 48 ≤ c → c ≤ 57 → kind c ≡ Letter
unfolding kind
digit_letter c low high = grind (arith, nat_tests)

digit_lower : (c : ℕ) → 48 ≤ c → c ≤ 57 → to_ascii_lowercase c ≡ c
digit_lower c low high = grind (arith, nat_tests)

digit_timely : (c : ℕ) → 48 ≤ c → c ≤ 57 → Timely c
digit_timely c low high = record { letter = digit_letter c low high; plain = record { free = λ e. omega arith; lower = digit_lower c low high } }

point_letter : kind 46 ≡ Letter
unfolding kind
point_letter = refl

point_timely : Timely 46
point_timely = record { letter = point_letter; plain = record { free = λ e. (let no : ⊥ = omega arith in no); lower = refl } }

digits_timely : (ds : List ℕ) → list_all is_ascii_digit ds ≡ true → AllByRecursion Timely ds
digits_timely [] h = tt
digits_timely (d ∷ ds) h =
    let p = and_parts (is_ascii_digit d) (list_all is_ascii_digit ds) h in
    let d_is = digit_is d p.0 in
    (digit_timely d d_is.0 d_is.1, digits_timely ds p.1)

last_timely : (n : ℕ) → Timely (digit n)
last_timely n = digit_timely (digit n) (omega arith) (omega arith)

decimals_timely : (scale : Scale) (n : ℕ) → AllByRecursion Timely (decimals scale n)
decimals_timely One n = tt
decimals_timely Ten n = (point_timely, (last_timely n, tt))
decimals_timely Hundred n = (point_timely, (last_timely (n / 10), (last_timely n, tt)))
decimals_timely Thousand n = (point_timely, (last_timely (n / 100), (last_timely (n / 10), (last_timely n, tt))))

-- ---- times

small_quotient : (scale : Scale) (n : ℕ) → n < 2 ^ 32 → n / scale_ticks scale < 2 ^ 64
small_quotient One n lt = omega arith
small_quotient Ten n lt = omega arith
small_quotient Hundred n lt = omega arith
small_quotient Thousand n lt = omega arith

module _ (scale : Scale) (n : ℕ) (lt : n < 2 ^ 32) where
  whole_digits : list_all is_ascii_digit (decimal (n / scale_ticks scale)) ≡ true
  whole_digits = digits_decimal own (n / scale_ticks scale) (small_quotient scale n lt)

  whole_value : digits_value 10 (decimal (n / scale_ticks scale)) ≡ n / scale_ticks scale
  whole_value = digits_value-decimal own (n / scale_ticks scale) (small_quotient scale n lt)

  whole_some : 0 < length (decimal (n / scale_ticks scale))
  whole_some = decimal_nonempty (n / scale_ticks scale) (small_quotient scale n lt)

  time_timely : AllByRecursion Timely (time_text scale n)
  time_timely = all_append Timely (decimal (n / scale_ticks scale)) (decimals scale n) (digits_timely (decimal (n / scale_ticks scale)) whole_digits) (decimals_timely scale n)

digit_no_point : (d : ℕ) → is_ascii_digit d ≡ true → eqb d 46 ≡ false
digit_no_point d h = let d_is = digit_is d h in ne_eqb d 46 (λ e. omega (arith, d_is.0))

before_digits : (ds rest : List ℕ) → list_all is_ascii_digit ds ≡ true → before_point (ds ++ 46 ∷ rest) ≡ ds
before_digits [] rest h = refl
before_digits (d ∷ ds) rest h =
    let p = and_parts (is_ascii_digit d) (list_all is_ascii_digit ds) h in
    ap (λ t. cond t [] (d ∷ before_point (ds ++ 46 ∷ rest))) (digit_no_point d p.0) ∙ ap (λ t. d ∷ t) (before_digits ds rest p.1)

after_digits : (ds rest : List ℕ) → list_all is_ascii_digit ds ≡ true → after_point (ds ++ 46 ∷ rest) ≡ rest
after_digits [] rest h = refl
after_digits (d ∷ ds) rest h =
    let p = and_parts (is_ascii_digit d) (list_all is_ascii_digit ds) h in
    ap (λ t. cond t (ds ++ 46 ∷ rest) (after_point (ds ++ 46 ∷ rest))) (digit_no_point d p.0) ∙ after_digits ds rest p.1

before_all : (ds : List ℕ) → list_all is_ascii_digit ds ≡ true → before_point ds ≡ ds
before_all [] h = refl
before_all (d ∷ ds) h =
    let p = and_parts (is_ascii_digit d) (list_all is_ascii_digit ds) h in
    ap (λ t. cond t [] (d ∷ before_point ds)) (digit_no_point d p.0) ∙ ap (λ t. d ∷ t) (before_all ds p.1)

after_none : (ds : List ℕ) → list_all is_ascii_digit ds ≡ true → after_point ds ≡ []
after_none [] h = refl
after_none (d ∷ ds) h =
    let p = and_parts (is_ascii_digit d) (list_all is_ascii_digit ds) h in
    ap (λ t. cond t ds (after_point ds)) (digit_no_point d p.0) ∙ after_none ds p.1

no_point : (ds : List ℕ) → list_all is_ascii_digit ds ≡ true → list_any (λ b. eqb b 46) ds ≡ false
no_point [] h = refl
no_point (d ∷ ds) h =
    let p = and_parts (is_ascii_digit d) (list_all is_ascii_digit ds) h in
    ap (λ t. t || list_any (λ b. eqb b 46) ds) (digit_no_point d p.0) ∙ no_point ds p.1

natural_is : (ds : List ℕ) → list_all is_ascii_digit ds ≡ true → 0 < length ds → is_natural ds ≡ true
natural_is [] h lt = absurd (let no : ⊥ = omega arith in no)
natural_is (d ∷ ds) h lt = h

form_point : (ds fs : List ℕ) → list_all is_ascii_digit ds ≡ true → 0 < length ds → list_all is_ascii_digit fs ≡ true → 0 < length fs → has_time_form (ds ++ 46 ∷ fs) ≡ true
form_point ds fs whole some part more =
    let w : List ℕ = ds ++ 46 ∷ fs in
    let b : is_natural (before_point w) ≡ true = ap is_natural (before_digits ds fs whole) ∙ natural_is ds whole some in
    let a : is_natural (after_point w) ≡ true = ap is_natural (after_digits ds fs whole) ∙ natural_is fs part more in
    ap (λ t. t && (not (list_any (λ b. eqb b 46) w) || is_natural (after_point w))) b
    ∙ ap (λ t. not (list_any (λ b. eqb b 46) w) || t) a
    ∙ or_true (not (list_any (λ b. eqb b 46) w))

form_plain : (ds : List ℕ) → list_all is_ascii_digit ds ≡ true → 0 < length ds → has_time_form ds ≡ true
form_plain ds whole some =
    ap (λ t. t && (not (list_any (λ b. eqb b 46) ds) || is_natural (after_point ds))) (ap is_natural (before_all ds whole) ∙ natural_is ds whole some)
    ∙ ap (λ t. not t || is_natural (after_point ds)) (no_point ds whole)

below_some : (n : ℕ) → n < 2 ^ 32 → below (2 ^ 32) (Some n) ≡ Some n
below_some n lt = grind (arith, nat_tests)

ticks_point : (scale q a n : ℕ) (ds fs : List ℕ) → list_all is_ascii_digit ds ≡ true → 0 < length ds → list_all is_ascii_digit fs ≡ true → 0 < length fs → digits_value 10 ds ≡ q → exact (digits_value 10 fs * scale) (10 ^ length fs) ≡ Some a → q * scale + a ≡ n → n < 2 ^ 32 → ticks_of scale (ds ++ 46 ∷ fs) ≡ Some n
ticks_point scale q a n ds fs whole some part more value ex sum lt =
    ticks_is scale (ds ++ 46 ∷ fs) (form_point ds fs whole some part more)
    ∙ ap (λ t. below (2 ^ 32) (option_map (λ p. digits_value 10 t * scale + p) (exact (digits_value 10 (after_point (ds ++ 46 ∷ fs)) * scale) (10 ^ length (after_point (ds ++ 46 ∷ fs)))))) (before_digits ds fs whole)
    ∙ ap (λ t. below (2 ^ 32) (option_map (λ p. digits_value 10 ds * scale + p) (exact (digits_value 10 t * scale) (10 ^ length t)))) (after_digits ds fs whole)
    ∙ ap (λ o. below (2 ^ 32) (option_map (λ p. digits_value 10 ds * scale + p) o)) ex
    ∙ ap (λ v. below (2 ^ 32) (Some (v * scale + a))) value
    ∙ ap (λ v. below (2 ^ 32) (Some v)) sum
    ∙ below_some n lt

ticks_plain : (n : ℕ) (ds : List ℕ) → list_all is_ascii_digit ds ≡ true → 0 < length ds → digits_value 10 ds ≡ n → n < 2 ^ 32 → ticks_of 1 ds ≡ Some n
ticks_plain n ds whole some value lt =
    ticks_is 1 ds (form_plain ds whole some)
    ∙ ap (λ t. below (2 ^ 32) (option_map (λ p. digits_value 10 t * 1 + p) (exact (digits_value 10 (after_point ds) * 1) (10 ^ length (after_point ds))))) (before_all ds whole)
    ∙ ap (λ t. below (2 ^ 32) (option_map (λ p. digits_value 10 ds * 1 + p) (exact (digits_value 10 t * 1) (10 ^ length t)))) (after_none ds whole)
    ∙ ap (λ v. below (2 ^ 32) (Some v)) (let e : digits_value 10 ds * 1 + 0 ≡ n = omega (arith, value) in e)
    ∙ below_some n lt

digit_worth : (n : ℕ) → digit_value (48 + n % 10) ≡ n % 10
digit_worth n =
    let test : is_ascii_digit (48 + n % 10) ≡ true = grind (arith, nat_tests) in
    let d_is = digit_is (48 + n % 10) test in
    omega (arith, d_is.2)

last_digit : (n : ℕ) → is_ascii_digit (digit n) ≡ true
last_digit n = let low : 48 ≤ digit n = omega arith in let high : digit n ≤ 57 = omega arith in grind (arith, nat_tests)

all_one : (a : ℕ) → is_ascii_digit a ≡ true → list_all is_ascii_digit (a ∷ []) ≡ true
all_one a h = ap (λ t. t && true) h

all_two : (a b : ℕ) → is_ascii_digit a ≡ true → is_ascii_digit b ≡ true → list_all is_ascii_digit (a ∷ b ∷ []) ≡ true
all_two a b h k = ap (λ t. t && list_all is_ascii_digit (b ∷ [])) h ∙ all_one b k

all_three : (a b c : ℕ) → is_ascii_digit a ≡ true → is_ascii_digit b ≡ true → is_ascii_digit c ≡ true → list_all is_ascii_digit (a ∷ b ∷ c ∷ []) ≡ true
all_three a b c h k l = ap (λ t. t && list_all is_ascii_digit (b ∷ c ∷ [])) h ∙ all_two b c k l

one_worth : (n : ℕ) → digits_value 10 (digit n ∷ []) ≡ n % 10
one_worth n = omega (arith, digit_worth n)

two_worth : (n : ℕ) → digits_value 10 (digit (n / 10) ∷ digit n ∷ []) ≡ (n / 10) % 10 * 10 + n % 10
two_worth n = omega (arith, digit_worth (n / 10), digit_worth n)

three_worth : (n : ℕ) → digits_value 10 (digit (n / 100) ∷ digit (n / 10) ∷ digit n ∷ []) ≡ (n / 100) % 10 * 100 + (n / 10) % 10 * 10 + n % 10
three_worth n = omega (arith, digit_worth (n / 100), digit_worth (n / 10), digit_worth n)

-- a written time counts its ticks
time_read : (scale : Scale) (n : ℕ) → n < 2 ^ 32 → ticks_of (scale_ticks scale) (time_text scale n) ≡ Some n
time_read One n lt =
    ap (ticks_of 1) (append-nil (decimal (n / 1)))
    ∙ ticks_plain n (decimal (n / 1)) (whole_digits One n lt) (whole_some One n lt) (whole_value One n lt ∙ (let e : n / 1 ≡ n = omega arith in e)) lt
time_read Ten n lt =
    ticks_point 10 (n / 10) (n % 10) n (decimal (n / 10)) (digit n ∷ []) (whole_digits Ten n lt) (whole_some Ten n lt) (all_one (digit n) (last_digit n)) (omega arith) (whole_value Ten n lt)
    (exact_some (digits_value 10 (digit n ∷ []) * 10) 10 (n % 10) (omega arith) (omega (arith, one_worth n)))
    (omega arith) lt
time_read Hundred n lt =
    ticks_point 100 (n / 100) ((n / 10) % 10 * 10 + n % 10) n (decimal (n / 100)) (digit (n / 10) ∷ digit n ∷ []) (whole_digits Hundred n lt) (whole_some Hundred n lt) (all_two (digit (n / 10)) (digit n) (last_digit (n / 10)) (last_digit n)) (omega arith) (whole_value Hundred n lt)
    (exact_some (digits_value 10 (digit (n / 10) ∷ digit n ∷ []) * 100) 100 ((n / 10) % 10 * 10 + n % 10) (omega arith) (omega (arith, two_worth n)))
    (omega arith) lt
time_read Thousand n lt =
    ticks_point 1000 (n / 1000) ((n / 100) % 10 * 100 + (n / 10) % 10 * 10 + n % 10) n (decimal (n / 1000)) (digit (n / 100) ∷ digit (n / 10) ∷ digit n ∷ []) (whole_digits Thousand n lt) (whole_some Thousand n lt) (all_three (digit (n / 100)) (digit (n / 10)) (digit n) (last_digit (n / 100)) (last_digit (n / 10)) (last_digit n)) (omega arith) (whole_value Thousand n lt)
    (exact_some (digits_value 10 (digit (n / 100) ∷ digit (n / 10) ∷ digit n ∷ []) * 1000) 1000 ((n / 100) % 10 * 100 + (n / 10) % 10 * 10 + n % 10) (omega arith) (omega (arith, three_worth n)))
    (omega arith) lt

time_form : (scale : Scale) (n : ℕ) → n < 2 ^ 32 → has_time_form (time_text scale n) ≡ true
time_form One n lt = ap has_time_form (append-nil (decimal (n / 1))) ∙ form_plain (decimal (n / 1)) (whole_digits One n lt) (whole_some One n lt)
time_form Ten n lt = form_point (decimal (n / 10)) (digit n ∷ []) (whole_digits Ten n lt) (whole_some Ten n lt) (all_one (digit n) (last_digit n)) (omega arith)
time_form Hundred n lt = form_point (decimal (n / 100)) (digit (n / 10) ∷ digit n ∷ []) (whole_digits Hundred n lt) (whole_some Hundred n lt) (all_two (digit (n / 10)) (digit n) (last_digit (n / 10)) (last_digit n)) (omega arith)
time_form Thousand n lt = form_point (decimal (n / 1000)) (digit (n / 100) ∷ digit (n / 10) ∷ digit n ∷ []) (whole_digits Thousand n lt) (whole_some Thousand n lt) (all_three (digit (n / 100)) (digit (n / 10)) (digit n) (last_digit (n / 100)) (last_digit (n / 10)) (last_digit n)) (omega arith)

-- ---- names

alpha_letter : (c : ℕ) → is_ascii_alphabetic c ≡ true → kind c ≡ Letter
unfolding kind
alpha_letter c h = grind (arith, nat_tests)

inner_letter : (c : ℕ) → is_inner c ≡ true → kind c ≡ Letter
unfolding kind
inner_letter c h = grind (arith, nat_tests)

letter_free : (c : ℕ) → kind c ≡ Letter → c ≡ 10 → ⊥
unfolding kind
letter_free c h e = let no : kind 10 ≡ Letter = sym (ap kind e) ∙ h in let none : ⊥ = cc in none

inner_letters : (bs : List ℕ) → list_all is_inner bs ≡ true → AllByRecursion (λ c. kind c ≡ Letter) bs
inner_letters [] h = tt
inner_letters (b ∷ bs) h = let p = and_parts (is_inner b) (list_all is_inner bs) h in (inner_letter b p.0, inner_letters bs p.1)

name_letters : (w : List ℕ) → is_name w ≡ true → AllByRecursion (λ c. kind c ≡ Letter) w
name_letters [] h = tt
name_letters (b ∷ bs) h = let p = and_parts (is_ascii_alphabetic b) (list_all is_inner bs) h in (alpha_letter b p.0, inner_letters bs p.1)

name_some : (w : List ℕ) → is_name w ≡ true → 0 < length w
name_some [] h = absurd (let no : ⊥ = cc in no)
name_some (b ∷ bs) h = omega arith

letters_plain : (w : List ℕ) → AllByRecursion (λ c. kind c ≡ Letter) w → map to_ascii_lowercase w ≡ w → AllByRecursion Plain w
letters_plain [] h e = tt
letters_plain (b ∷ bs) h e =
    let here : to_ascii_lowercase b ≡ b = cc in
    let more : map to_ascii_lowercase bs ≡ bs = cc in
    (record { free = letter_free b h.0; lower = here }, letters_plain bs h.1 more)

plain_lower : (w : List ℕ) → AllByRecursion Plain w → map to_ascii_lowercase w ≡ w
plain_lower [] h = refl
plain_lower (b ∷ bs) h = ap (λ c. c ∷ map to_ascii_lowercase bs) h.0.lower ∙ ap (λ t. b ∷ t) (plain_lower bs h.1)

-- ---- lexemes

kind_blank : kind 32 ≡ Blank
unfolding kind
kind_blank = refl

kind_colon : kind 58 ≡ Alone
unfolding kind
kind_colon = refl

kind_left : kind 40 ≡ Alone
unfolding kind
kind_left = refl

kind_right : kind 41 ≡ Alone
unfolding kind
kind_right = refl

kind_open : kind 91 ≡ Alone
unfolding kind
kind_open = refl

kind_close : kind 93 ≡ Alone
unfolding kind
kind_close = refl

no_lexeme : lexemes [] ≡ []
unfolding lexemes
no_lexeme = refl

whole_word : (w rest : List ℕ) → 0 < length w → AllByRecursion (λ c. kind c ≡ Letter) w → begins_word rest ≡ false → lexemes (w ++ rest) ≡ word w ∷ lexemes rest
whole_word [] rest lt letters ends = absurd (let no : ⊥ = omega arith in no)
whole_word (b ∷ w) rest lt letters ends = run_is_word b w rest letters ends

blank_before : (bs : List ℕ) → lexemes (32 ∷ bs) ≡ lexemes bs
blank_before bs = lexeme_step 32 bs Blank kind_blank

sign_before : (b : ℕ) (bs : List ℕ) → kind b ≡ Alone → lexemes (b ∷ bs) ≡ sign b ∷ lexemes bs
sign_before b bs is = lexeme_step b bs Alone is

abbrev spaced : List ℕ → List ℕ
spaced v = 32 ∷ v

-- words after spaces
spaced_ends : (ws : List (List ℕ)) (rest : List ℕ) → begins_word rest ≡ false → begins_word (flat_map spaced ws ++ rest) ≡ false
spaced_ends [] rest ends = ends
spaced_ends (v ∷ vs) rest ends = ap is_letter kind_blank

word_lexemes : (w : List ℕ) (tail rest : List ℕ) → is_name w ≡ true → begins_word (tail ++ rest) ≡ false → lexemes ((w ++ tail) ++ rest) ≡ word w ∷ lexemes (tail ++ rest)
word_lexemes w tail rest name ends = ap lexemes (append_assoc w tail rest) ∙ whole_word w (tail ++ rest) (name_some w name) (name_letters w name) ends

spaced_lexemes : (ws : List (List ℕ)) (rest : List ℕ) → list_all is_name ws ≡ true → begins_word rest ≡ false → lexemes (flat_map spaced ws ++ rest) ≡ map word ws ++ lexemes rest
spaced_lexemes [] rest names ends = refl
spaced_lexemes (v ∷ vs) rest names ends =
    let p = and_parts (is_name v) (list_all is_name vs) names in
    blank_before ((v ++ flat_map spaced vs) ++ rest)
    ∙ word_lexemes v (flat_map spaced vs) rest p.0 (spaced_ends vs rest ends)
    ∙ ap (λ ms. word v ∷ ms) (spaced_lexemes vs rest p.1 ends)

words_lexemes : (ws : List (List ℕ)) (rest : List ℕ) → are_names ws ≡ true → begins_word rest ≡ false → lexemes (words_text ws ++ rest) ≡ map word ws ++ lexemes rest
words_lexemes [] rest names ends = refl
words_lexemes (v ∷ vs) rest names ends =
    let p = and_parts (is_name v) (list_all is_name vs) names in
    word_lexemes v (flat_map spaced vs) rest p.0 (spaced_ends vs rest ends)
    ∙ ap (λ ms. word v ∷ ms) (spaced_lexemes vs rest p.1 ends)

-- ---- lines

abbrev duration_of : Scale → Bool → ℕ → Option (List ℕ)
duration_of scale true d = Some (time_text scale d)
duration_of scale false d = None

-- what stands behind the words, without the LF
abbrev end_line : Scale → Bool → ℕ → List ℕ
end_line scale true d = codes ") [" ++ (time_text scale d ++ 93 ∷ [])
end_line scale false d = 41 ∷ []

abbrev line_text : ReadableTask → Step → List ℕ
line_text task s = (time_text task.scale s.tick ++ codes ": (") ++ (words_text (task.words s.action) ++ end_line task.scale (task.is_durative s.action) s.duration)

abbrev form_text : ReadableTask → Step → Form
form_text task s = record { time = time_text task.scale s.tick; words = task.words s.action; duration = duration_of task.scale (task.is_durative s.action) s.duration }

end_split : (scale : Scale) (t : Bool) (d : ℕ) → end_text scale t d ≡ end_line scale t d ++ 10 ∷ []
end_split scale false d = refl
end_split scale true d =
    ap (λ x. codes ") [" ++ x) (sym (append_assoc (time_text scale d) (93 ∷ []) (10 ∷ [])))
    ∙ sym (append_assoc (codes ") [") (time_text scale d ++ 93 ∷ []) (10 ∷ []))

step_split : (task : ReadableTask) (s : Step) → step_text task s ≡ line_text task s ++ 10 ∷ []
step_split task s =
    let a = time_text task.scale s.tick ++ codes ": (" in
    let w = words_text (task.words s.action) in
    let e = end_line task.scale (task.is_durative s.action) s.duration in
    ap (λ x. a ++ (w ++ x)) (end_split task.scale (task.is_durative s.action) s.duration)
    ∙ ap (λ x. a ++ x) (sym (append_assoc w e (10 ∷ [])))
    ∙ sym (append_assoc a (w ++ e) (10 ∷ []))

time_word : (scale : Scale) (n : ℕ) (rest : List ℕ) → n < 2 ^ 32 → begins_word rest ≡ false → lexemes (time_text scale n ++ rest) ≡ word (time_text scale n) ∷ lexemes rest
time_word scale n rest lt ends =
    let some : 0 < length (time_text scale n) = simp length-append (omega (arith, whole_some scale n lt)) in
    whole_word (time_text scale n) rest some (all_weaker Timely (λ c. kind c ≡ Letter) (λ c t. t.letter) (time_text scale n) (time_timely scale n lt)) ends

end_begins : (scale : Scale) (t : Bool) (d : ℕ) → begins_word (end_line scale t d) ≡ false
end_begins scale true d = ap is_letter kind_right
end_begins scale false d = ap is_letter kind_right

end_lexemes : (scale : Scale) (t : Bool) (d : ℕ) → d < 2 ^ 32 → lexemes (end_line scale t d) ≡ sign 41 ∷ bracketed (duration_of scale t d)
end_lexemes scale false d lt = sign_before 41 [] kind_right ∙ ap (λ ms. sign 41 ∷ ms) no_lexeme
end_lexemes scale true d lt =
    sign_before 41 (32 ∷ 91 ∷ (time_text scale d ++ 93 ∷ [])) kind_right
    ∙ ap (λ ms. sign 41 ∷ ms)
    (blank_before (91 ∷ (time_text scale d ++ 93 ∷ []))
    ∙ sign_before 91 (time_text scale d ++ 93 ∷ []) kind_open
    ∙ ap (λ ms. sign 91 ∷ ms)
    (time_word scale d (93 ∷ []) lt (ap is_letter kind_close)
    ∙ ap (λ ms. word (time_text scale d) ∷ ms) (sign_before 93 [] kind_close ∙ ap (λ ms. sign 93 ∷ ms) no_lexeme)))

line_lexemes : (task : ReadableTask) (s : Step) → are_names (task.words s.action) ≡ true → s.tick < 2 ^ 32 → s.duration < 2 ^ 32 → lexemes (line_text task s) ≡ written (form_text task s)
line_lexemes task s names tick duration =
    let x = words_text (task.words s.action) ++ end_line task.scale (task.is_durative s.action) s.duration in
    ap lexemes (append_assoc (time_text task.scale s.tick) (codes ": (") x)
    ∙ time_word task.scale s.tick (58 ∷ 32 ∷ 40 ∷ x) tick (ap is_letter kind_colon)
    ∙ ap (λ ms. word (time_text task.scale s.tick) ∷ ms)
    (sign_before 58 (32 ∷ 40 ∷ x) kind_colon
    ∙ ap (λ ms. sign 58 ∷ ms)
    (blank_before (40 ∷ x)
    ∙ sign_before 40 x kind_left
    ∙ ap (λ ms. sign 40 ∷ ms)
    (words_lexemes (task.words s.action) (end_line task.scale (task.is_durative s.action) s.duration) names (end_begins task.scale (task.is_durative s.action) s.duration)
    ∙ ap (λ ms. map word (task.words s.action) ++ ms) (end_lexemes task.scale (task.is_durative s.action) s.duration duration))))

-- ---- steps

well_formed : (task : ReadableTask) (s : Step) → are_names (task.words s.action) ≡ true → s.tick < 2 ^ 32 → s.duration < 2 ^ 32 → (t : Bool) → is_well_formed (record { time = time_text task.scale s.tick; words = task.words s.action; duration = duration_of task.scale t s.duration }) ≡ true
well_formed task s names tick duration true =
    ap (λ b. b && (are_names (task.words s.action) && has_time_form (time_text task.scale s.duration))) (time_form task.scale s.tick tick)
    ∙ ap (λ b. b && has_time_form (time_text task.scale s.duration)) names
    ∙ time_form task.scale s.duration duration
well_formed task s names tick duration false =
    ap (λ b. b && (are_names (task.words s.action) && true)) (time_form task.scale s.tick tick)
    ∙ ap (λ b. b && true) names

timed_ok : (horizon t d : ℕ) (a : ActionId) → t + d ≤ horizon → timed horizon a (Some t) (Some d) ≡ Ok (record { tick = t; action = a; duration = d })
timed_ok horizon t d a le =
    let test : nat_le (t + d) horizon ≡ true = grind (arith, nat_tests) in
    ap (λ b. cond b (Ok (record { tick = t; action = a; duration = d })) (Err wrong.Horizon)) test

lasting_ok : (task : ReadableTask) (s : Step) (f : Form) (t : Bool) → (t ≡ false → s.duration ≡ 0) → s.tick + s.duration ≤ task.horizon → s.tick < 2 ^ 32 → s.duration < 2 ^ 32 → f.time ≡ time_text task.scale s.tick → lasting (scale_ticks task.scale) task.horizon f s.action t (duration_of task.scale t s.duration) ≡ Ok s
lasting_ok task s f true instant ends tick duration time =
    ap (λ w. timed task.horizon s.action (ticks_of (scale_ticks task.scale) w) (ticks_of (scale_ticks task.scale) (time_text task.scale s.duration))) time
    ∙ ap (λ o. timed task.horizon s.action o (ticks_of (scale_ticks task.scale) (time_text task.scale s.duration))) (time_read task.scale s.tick tick)
    ∙ ap (timed task.horizon s.action (Some s.tick)) (time_read task.scale s.duration duration)
    ∙ timed_ok task.horizon s.tick s.duration s.action ends
lasting_ok task s f false instant ends tick duration time =
    let none : s.duration ≡ 0 = instant refl in
    ap (λ w. timed task.horizon s.action (ticks_of (scale_ticks task.scale) w) (Some 0)) time
    ∙ ap (λ o. timed task.horizon s.action o (Some 0)) (time_read task.scale s.tick tick)
    ∙ ap (λ d. timed task.horizon s.action (Some s.tick) (Some d)) (sym none)
    ∙ timed_ok task.horizon s.tick s.duration s.action ends

module _ (task : ReadableTask) (s : Step) (limit : task.horizon ≤ 1000000000) (h : IsReadable task s) where
  tick_fits : s.tick < 2 ^ 32
  tick_fits = omega (arith, h.ends)

  duration_fits : s.duration < 2 ^ 32
  duration_fits = omega (arith, h.ends)

  marked : lexemes (line_text task s) ≡ written (form_text task s)
  marked = line_lexemes task s h.names tick_fits duration_fits

  line_full : is_bare (lexemes (line_text task s)) ≡ false
  line_full = ap is_bare marked

  line_read : step_of task (line_text task s) ≡ Ok s
  line_read =
      let f = form_text task s in
      ap (λ ms. formed task (form_of ms)) marked
      ∙ ap (formed task) (form_read f)
      ∙ ap (λ b. cond b (acting task f (task.action f.words)) (Err wrong.Form)) (well_formed task s h.names tick_fits duration_fits (task.is_durative s.action))
      ∙ ap (acting task f) h.action
      ∙ lasting_ok task s f (task.is_durative s.action) h.instant h.ends tick_fits duration_fits refl

-- ---- texts

names_plain : (ws : List (List ℕ)) → list_all is_name ws ≡ true → AllByRecursion (λ w. map to_ascii_lowercase w ≡ w) ws → AllByRecursion Plain (flat_map spaced ws)
names_plain [] names lower = tt
names_plain (w ∷ ws) names lower =
    let p = and_parts (is_name w) (list_all is_name ws) names in (
      record { free = λ e. (let no : ⊥ = omega arith in no); lower = refl },
      all_append Plain w (flat_map spaced ws) (letters_plain w (name_letters w p.0) lower.0) (names_plain ws p.1 lower.1),
    )

words_plain : (ws : List (List ℕ)) → are_names ws ≡ true → AllByRecursion (λ w. map to_ascii_lowercase w ≡ w) ws → AllByRecursion Plain (words_text ws)
words_plain [] names lower = tt
words_plain (w ∷ ws) names lower =
    let p = and_parts (is_name w) (list_all is_name ws) names in
    all_append Plain w (flat_map spaced ws) (letters_plain w (name_letters w p.0) lower.0) (names_plain ws p.1 lower.1)

time_plain : (scale : Scale) (n : ℕ) → n < 2 ^ 32 → AllByRecursion Plain (time_text scale n)
time_plain scale n lt = all_weaker Timely Plain (λ c t. t.plain) (time_text scale n) (time_timely scale n lt)

other_plain : (c : ℕ) → 11 ≤ c → c ≤ 64 → Plain c
other_plain c low high = record { free = λ e. omega arith; lower = grind (arith, nat_tests) }

bracket_plain : (c : ℕ) → 91 ≤ c → Plain c
bracket_plain c low = record { free = λ e. omega arith; lower = grind (arith, nat_tests) }

end_plain : (scale : Scale) (t : Bool) (d : ℕ) → d < 2 ^ 32 → AllByRecursion Plain (end_line scale t d)
end_plain scale false d lt = (other_plain 41 (omega arith) (omega arith), tt)
end_plain scale true d lt = (
  other_plain 41 (omega arith) (omega arith),
  (
    other_plain 32 (omega arith) (omega arith),
    (
      bracket_plain 91 (omega arith),
      all_append Plain (time_text scale d) (93 ∷ []) (time_plain scale d lt) (bracket_plain 93 (omega arith), tt),
    ),
  ),
)

line_plain : (task : ReadableTask) (s : Step) → task.horizon ≤ 1000000000 → IsReadable task s → AllByRecursion Plain (line_text task s)
line_plain task s limit h =
    all_append Plain (time_text task.scale s.tick ++ codes ": (") (words_text (task.words s.action) ++ end_line task.scale (task.is_durative s.action) s.duration)
    (all_append Plain (time_text task.scale s.tick) (codes ": (") (time_plain task.scale s.tick (tick_fits task s limit h)) (other_plain 58 (omega arith) (omega arith), (other_plain 32 (omega arith) (omega arith), (other_plain 40 (omega arith) (omega arith), tt))))
    (all_append Plain (words_text (task.words s.action)) (end_line task.scale (task.is_durative s.action) s.duration) (words_plain (task.words s.action) h.names h.lower) (end_plain task.scale (task.is_durative s.action) s.duration (duration_fits task s limit h)))

module _ (task : ReadableTask) (limit : task.horizon ≤ 1000000000) where
  lower_plan : (steps : List Step) → AllByRecursion (IsReadable task) steps → map to_ascii_lowercase (plan_text task steps) ≡ plan_text task steps
  lower_plan [] all = refl
  lower_plan (s ∷ steps) all =
      let line : map to_ascii_lowercase (step_text task s) ≡ step_text task s =
      ap (map to_ascii_lowercase) (step_split task s)
      ∙ map-append to_ascii_lowercase (line_text task s) (10 ∷ [])
      ∙ ap (λ t. t ++ 10 ∷ []) (plain_lower (line_text task s) (line_plain task s limit all.0))
      ∙ sym (step_split task s) in
      map-append to_ascii_lowercase (step_text task s) (plan_text task steps)
      ∙ ap (λ t. t ++ map to_ascii_lowercase (plan_text task steps)) line
      ∙ ap (λ t. step_text task s ++ t) (lower_plan steps all.1)

  plan_lines : (steps : List Step) → AllByRecursion (IsReadable task) steps → lines_of (plan_text task steps) ≡ map (line_text task) steps
  plan_lines [] all = refl
  plan_lines (s ∷ steps) all =
      ap (λ t. lines_of (t ++ plan_text task steps)) (step_split task s)
      ∙ ap lines_of (append_assoc (line_text task s) (10 ∷ []) (plan_text task steps))
      ∙ line_cut (line_text task s) (plan_text task steps) (all_weaker Plain (λ c. c ≡ 10 → ⊥) (λ c p. p.free) (line_text task s) (line_plain task s limit all.0))
      ∙ ap (λ ls. line_text task s ∷ ls) (plan_lines steps all.1)

  steps_read : (steps : List Step) → AllByRecursion (IsReadable task) steps → map (step_of task) (full_lines (map (line_text task) steps)) ≡ map Ok steps
  steps_read [] all = refl
  steps_read (s ∷ steps) all =
      ap (λ b. map (step_of task) (cond b (full_lines (map (line_text task) steps)) (line_text task s ∷ full_lines (map (line_text task) steps)))) (line_full task s limit all.0)
      ∙ ap (λ r. r ∷ map (step_of task) (full_lines (map (line_text task) steps))) (line_read task s limit all.0)
      ∙ ap (λ rs. Ok s ∷ rs) (steps_read steps all.1)

pub plans_read : PlansAreRead
plans_read task steps limit all =
    ap (λ t. map (step_of task) (full_lines (lines_of t))) (lower_plan task limit steps all)
    ∙ ap (λ ls. map (step_of task) (full_lines ls)) (plan_lines task limit steps all)
    ∙ steps_read task limit steps all
