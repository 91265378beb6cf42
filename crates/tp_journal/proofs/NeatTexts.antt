-- What is written word by word, with one space between, is neat.
use Rattle.std.proofs.Common.{◌≡◌, cond, ℕ, zero, suc, ◌+◌, ◌^◌, ◌/◌, ◌%◌, ◌<◌, ◌≤◌, Bool, true, false, List, [], ◌∷◌, ◌++◌, Option, Some, None, refl, ap, sym, subst, ◌∙◌, arith, append-nil, flat_map, decimal}
use Rattle.std.specs.Prelude.{nat_eq}
use Rattle.std.specs.Option.{option_and_then}
use Rattle.std.proofs.lemmas.Fmt.{decimal_by_steps}
use Rattle.std.proofs.lemmas.Bool.Decides.{nat_tests}
use Rattle.tp_script.specs.Words.{is_digit}
use Rattle.tp_journal.specs.declared.form.LastByte.{LastByte}
use Rattle.tp_journal.specs.declared.form.LastByte.TheVariants.{Gap, Zero, Digit, Other}
use Rattle.tp_journal.specs.Form.{digit_after, last_after, last_byte_of, ends_word, is_neat}

-- the text is words with one space between, and ends with one
pub record Tidy (xs : List ℕ) : Type 0 where
  pub last : LastByte
  pub reads : last_byte_of Gap xs ≡ Some last
  pub ends : ends_word (Some last) ≡ true

pub tidy_neat : (xs : List ℕ) → Tidy xs → is_neat xs ≡ true
tidy_neat xs t = ap ends_word t.reads ∙ t.ends

pub last_more : (last : LastByte) (xs ys : List ℕ) → last_byte_of last (xs ++ ys) ≡ option_and_then (λ k. last_byte_of k ys) (last_byte_of last xs)
last_more last [] ys = refl
last_more last (x ∷ xs) ys = by_next (last_after last x) (λ next. last_more next xs ys)
  where
    by_next : (o : Option LastByte) → ((next : LastByte) → last_byte_of next (xs ++ ys) ≡ option_and_then (λ k. last_byte_of k ys) (last_byte_of next xs)) → option_and_then (λ next. last_byte_of next (xs ++ ys)) o ≡ option_and_then (λ k. last_byte_of k ys) (option_and_then (λ next. last_byte_of next xs) o)
    by_next None h = refl
    by_next (Some next) h = h next

space_ends : (last : LastByte) (ys : List ℕ) → ends_word (Some last) ≡ true → last_byte_of last (32 ∷ ys) ≡ last_byte_of Gap ys
space_ends Gap ys h = absurd (let f : ⊥ = cc in f)
space_ends Zero ys h = refl
space_ends Digit ys h = refl
space_ends Other ys h = refl

-- ---- two texts with a space between

pub tidy_join : (xs ys : List ℕ) → Tidy xs → Tidy ys → Tidy (xs ++ 32 ∷ ys)
tidy_join xs ys t u =
    record {
      last = u.last;
      reads = last_more Gap xs (32 ∷ ys) ∙ (ap (option_and_then (λ k. last_byte_of k (32 ∷ ys))) t.reads ∙ (space_ends t.last ys t.ends ∙ u.reads));
      ends = u.ends;
    }

abbrev pub AllTidy : {X : Type 0} → (X → List ℕ) → List X → Type 0
AllTidy f [] = Unit {0}
AllTidy f (x ∷ xs) = Tidy (f x) × AllTidy f xs

pub tidy_all : {X : Type 0} (f : X → List ℕ) (text : List ℕ) (xs : List X) → Tidy text → AllTidy f xs → Tidy (text ++ flat_map (λ x. 32 ∷ f x) xs)
tidy_all f text [] t all = subst Tidy (sym (append-nil text)) t
tidy_all f text (x ∷ xs) t all = tidy_join text (f x ++ flat_map (λ y. 32 ∷ f y) xs) t (tidy_all f (f x) xs all.0 all.1)

-- ---- numbers

abbrev pub number_last : ℕ → LastByte
number_last n = cond (nat_eq n 0) Zero Digit

ends_by : (b : Bool) → ends_word (Some (cond b Zero Digit)) ≡ true
ends_by true = refl
ends_by false = refl

digit_last : (last : LastByte) (d : ℕ) → d < 10 → last_after last (48 + d) ≡ digit_after last (48 + d)
digit_last last d lt =
    let a : nat_eq (48 + d) 32 ≡ false = grind (arith, nat_tests) in
    let b : nat_eq (48 + d) 9 ≡ false = grind (arith, nat_tests) in
    let c : nat_eq (48 + d) 13 ≡ false = grind (arith, nat_tests) in
    let e : is_digit (48 + d) ≡ true = grind (arith, nat_tests) in
    rw (a, b, c, e) refl

first_digit : (d : ℕ) → cond (nat_eq (48 + d) 48) (Some Zero) (Some Digit) ≡ Some (number_last d)
first_digit zero = refl
first_digit (suc d) =
    let a : nat_eq (48 + suc d) 48 ≡ false = grind (arith, nat_tests) in
    let b : nat_eq (suc d) 0 ≡ false = grind (arith, nat_tests) in
    rw (a, b) refl

abbrev Reads : ℕ → List ℕ → Type 0
Reads n ds = (last_byte_of Gap ds ≡ Some (number_last n)) × (last_byte_of Other ds ≡ Some (number_last n))

one_digit : (n : ℕ) → n < 10 → Reads n ((48 + n) ∷ [])
one_digit n lt =
    (ap (option_and_then (λ k. Some k)) (digit_last Gap n lt ∙ first_digit n), ap (option_and_then (λ k. Some k)) (digit_last Other n lt ∙ first_digit n))

longer : (n : ℕ) → 0 < n → number_last n ≡ Digit
longer n lt = let a : nat_eq n 0 ≡ false = grind (arith, nat_tests) in rw a refl

digit_more : (last : LastByte) (n d : ℕ) (ds : List ℕ) → 0 < n → d < 10 → last_byte_of last ds ≡ Some (number_last n) → last_byte_of last (ds ++ (48 + d) ∷ []) ≡ Some Digit
digit_more last n d ds some lt h =
    last_more last ds ((48 + d) ∷ [])
    ∙ (ap (option_and_then (λ k. last_byte_of k ((48 + d) ∷ []))) (h ∙ ap Some (longer n some))
    ∙ ap (option_and_then (λ k. Some k)) (digit_last Digit d lt))

more_digits : (n : ℕ) (ds : List ℕ) → 10 ≤ n → Reads (n / 10) ds → Reads n (ds ++ (48 + n % 10) ∷ [])
more_digits n ds le h =
    let some : 0 < n / 10 = omega arith in
    let is : Some Digit ≡ Some (number_last n) = ap Some (sym (longer n (omega arith))) in
    (digit_more Gap (n / 10) (n % 10) ds some (omega arith) h.0 ∙ is, digit_more Other (n / 10) (n % 10) ds some (omega arith) h.1 ∙ is)

pub digits_read : (n : ℕ) → n < 2 ^ 64 → Reads n (decimal n)
digits_read = decimal_by_steps Reads one_digit more_digits

pub tidy_number : (n : ℕ) → n < 2 ^ 64 → Tidy (decimal n)
tidy_number n small = record { last = number_last n; reads = (digits_read n small).0; ends = ends_by (nat_eq n 0) }

-- a number behind letters
pub number_behind : (n : ℕ) (xs : List ℕ) → n < 2 ^ 64 → last_byte_of Gap xs ≡ Some Other → Tidy (xs ++ decimal n)
number_behind n xs small is =
    record {
      last = number_last n;
      reads = last_more Gap xs (decimal n) ∙ (ap (option_and_then (λ k. last_byte_of k (decimal n))) is ∙ (digits_read n small).1);
      ends = ends_by (nat_eq n 0);
    }

-- a byte that is no digit and no blank behind a text
pub letter_behind : (xs : List ℕ) (b : ℕ) → ((last : LastByte) → last_after last b ≡ Some Other) → Tidy xs → Tidy (xs ++ b ∷ [])
letter_behind xs b is t =
    record {
      last = Other;
      reads = last_more Gap xs (b ∷ []) ∙ (ap (option_and_then (λ k. last_byte_of k (b ∷ []))) t.reads ∙ ap (option_and_then (λ k. Some k)) (is t.last));
      ends = refl;
    }
