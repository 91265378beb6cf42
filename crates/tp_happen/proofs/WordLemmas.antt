-- Bits of words that grow, are read and are written.
use Rattle.std.specs.Prelude.{ℕ, zero, suc, ◌≡◌, ◌+◌, ◌*◌, ◌/◌, ◌%◌, ◌^◌, ◌<◌, ◌≤◌, ◌==◌, ◌&&◌, ◌||◌, false, List, [], ◌∷◌, ◌++◌, length, set, max, bit_and, bit_or}
use Rattle.std.specs.Int.{bit_at}
use Rattle.std.proofs.Common.{refl, sym, ap, subst, ◌∙◌, arith, get_or, inl, inr, eq-eqb}
use Rattle.std.proofs.lemmas.List.{get_or-set_same, get_or-set_other}
use Rattle.std.proofs.lemmas.Bool.{cases_eq, ne_eqb, and_left, and_right}
use Rattle.std.proofs.lemmas.Bool.Decides.{nat_tests}
use Rattle.std.proofs.lemmas.Nat.{one_shl}
use Rattle.std.proofs.lemmas.Nat.Bits.{bit_at_or, bit_at-zero, bit_at-pow_same, bit_at-pow_other, shr_and_one}
use Rattle.tp_happen.specs.Sets.{has_bit, is_in_word}
use Rattle.tp_happen.proofs.TestLemmas.{or_false}

bit_small : (n i : ℕ) → bit_at n i ≤ 1
bit_small n i = omega arith

-- the larger of two bits is set where either is
max_bits : (a b : ℕ) → a ≤ 1 → b ≤ 1 → (max a b == 1) ≡ (a == 1 || b == 1)
max_bits a b small_a small_b = grind (arith, nat_tests)

-- no word has no number
pub has_bit_none : (n : ℕ) → has_bit [] n ≡ false
unfolding has_bit
has_bit_none n = ap (λ b. b == 1) (bit_at-zero (n % 64))

get_or_zeros : (words : List ℕ) (i : ℕ) → get_or (words ++ 0 ∷ []) i 0 ≡ get_or words i 0
get_or_zeros [] zero = refl
get_or_zeros [] (suc i) = refl
get_or_zeros (word ∷ words) zero = refl
get_or_zeros (word ∷ words) (suc i) = get_or_zeros words i

-- one more empty word
pub has_bit_push : (words : List ℕ) (n : ℕ) → has_bit (words ++ 0 ∷ []) n ≡ has_bit words n
unfolding has_bit
has_bit_push words n = ap (λ w. bit_at w (n % 64) == 1) (get_or_zeros words (n / 64))

put_here : (words : List ℕ) (place word i : ℕ) → place < length words
    → (bit_at (get_or (set words place (bit_or (get_or words place 0) word)) place 0) i == 1)
    ≡ ((bit_at (get_or words place 0) i == 1) || (place == place && bit_at word i == 1))
put_here words place word i within =
    let old = get_or words place 0 in
    ap (λ w. bit_at w i == 1) (get_or-set_same words place (bit_or old word) 0 within)
    ∙ ap (λ b. b == 1) (bit_at_or old word i)
    ∙ max_bits (bit_at old i) (bit_at word i) (bit_small old i) (bit_small word i)
    ∙ sym (ap (λ t. (bit_at old i == 1) || (t && bit_at word i == 1)) (eq-eqb place place refl))

put_elsewhere : (words : List ℕ) (place word new k i : ℕ) → (k ≡ place → ⊥)
    → (bit_at (get_or (set words place new) k 0) i == 1)
    ≡ ((bit_at (get_or words k 0) i == 1) || (k == place && bit_at word i == 1))
put_elsewhere words place word new k i other =
    ap (λ w. bit_at w i == 1) (get_or-set_other words place k new 0 other)
    ∙ sym (ap (λ t. (bit_at (get_or words k 0) i == 1) || (t && bit_at word i == 1)) (ne_eqb k place other)
    ∙ or_false (bit_at (get_or words k 0) i == 1))

put_bit : (words : List ℕ) (place word k i : ℕ) → place < length words
    → (bit_at (get_or (set words place (bit_or (get_or words place 0) word)) k 0) i == 1)
    ≡ ((bit_at (get_or words k 0) i == 1) || (k == place && bit_at word i == 1))
put_bit words place word k i within = elim (cases_eq k place) [
  | inl same ↦ subst (λ j. (bit_at (get_or (set words place (bit_or (get_or words place 0) word)) j 0) i == 1)
      ≡ ((bit_at (get_or words j 0) i == 1) || (j == place && bit_at word i == 1))) (sym same) (put_here words place word i within)
  | inr other ↦ put_elsewhere words place word (bit_or (get_or words place 0) word) k i other
]

-- a word is put in at a place
pub has_bit_put : (words : List ℕ) (place word : ℕ) → place < length words
    → (n : ℕ) → has_bit (set words place (bit_or (get_or words place 0) word)) n ≡ (has_bit words n || is_in_word place word n)
unfolding has_bit is_in_word
has_bit_put words place word within n = put_bit words place word (n / 64) (n % 64) within

one_other : (number n : ℕ) → (n ≡ number → ⊥) → (n / 64 == number / 64 && bit_at (2 ^ (number % 64)) (n % 64) == 1) ≡ (n == number)
one_other number n other = (elim (cases_eq (n / 64) (number / 64)) [
  | inl same ↦ and_right (n / 64 == number / 64) (bit_at (2 ^ (number % 64)) (n % 64) == 1)
      (ap (λ b. b == 1) (bit_at-pow_other (number % 64) (n % 64) (λ e. other (omega arith))))
  | inr apart ↦ and_left (n / 64 == number / 64) (bit_at (2 ^ (number % 64)) (n % 64) == 1) (ne_eqb (n / 64) (number / 64) apart)
]) ∙ sym (ne_eqb n number other)

one_bit : (number n : ℕ) → (n / 64 == number / 64 && bit_at (2 ^ (number % 64)) (n % 64) == 1) ≡ (n == number)
one_bit number n = elim (cases_eq n number) [
  | inl same ↦ subst (λ m. (m / 64 == number / 64 && bit_at (2 ^ (number % 64)) (m % 64) == 1) ≡ (m == number)) (sym same)
      (ap (λ t. t && bit_at (2 ^ (number % 64)) (number % 64) == 1) (eq-eqb (number / 64) (number / 64) refl)
      ∙ ap (λ b. b == 1) (bit_at-pow_same (number % 64)) ∙ sym (eq-eqb number number refl))
  | inr other ↦ one_other number n other
]

-- a word of a single one
pub is_in_one : (number n : ℕ) → is_in_word (number / 64) (1 * 2 ^ (number % 64) % 2 ^ 64) n ≡ (n == number)
unfolding is_in_word
is_in_one number n =
    ap (λ w. n / 64 == number / 64 && bit_at w (n % 64) == 1) (one_shl (number % 64) 64 (omega arith)) ∙ one_bit number n

-- the test of a bit that is read
pub has_bit_read : (words : List ℕ) (number word : ℕ) → word ≡ get_or words (number / 64) 0
    → (bit_and (word / 2 ^ (number % 64)) 1 == 1) ≡ has_bit words number
unfolding has_bit
has_bit_read words number word is =
    ap (λ b. b == 1) (shr_and_one word (number % 64)) ∙ ap (λ w. bit_at w (number % 64) == 1) is

pub has_bit_past : (words : List ℕ) (number : ℕ) → 0 ≡ get_or words (number / 64) 0 → false ≡ has_bit words number
unfolding has_bit
has_bit_past words number is =
    sym (ap (λ b. b == 1) (bit_at-zero (number % 64))) ∙ ap (λ w. bit_at w (number % 64) == 1) is
