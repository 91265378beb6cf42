-- What stands at the front of bytes, by the class of the first.
use Rattle.std.proofs.Common.{◌≡◌, ℕ, suc, ◌+◌, ◌<◌, ◌≤◌, false, eqb, List, [], ◌∷◌, length, take, drop, All, refl, sym, ap, ◌∙◌, subst, arith, ◌⊎◌, inl, inr, take-append-drop, length-take-le}
use Rattle.std.specs.Str.{IsAscii}
use Rattle.std.proofs.lemmas.Bool.Decides.{nat_tests}
use Rattle.std.proofs.lemmas.Str.Ascii.{IsAscii-from_all, IsAscii-cons, IsAscii-nil}
use Rattle.std.proofs.lemmas.List.Elements.{recursion_from_All}
use Rattle.tp_text.specs.Lexemes.{Lexeme, word, class, begins_word, placed, after_comment, before}
use Rattle.tp_text.specs.Tokens.{lexeme_of, Begins}
use Rattle.tp_text.specs.declared.lexing.Class.{Class}
use Rattle.tp_text.specs.declared.lexing.Class.TheVariants.{Blank, Semicolon, Opening, Closing, Letter, Other}
use Rattle.tp_text.specs.declared.lexing.Piece.TheVariants as pieces
use Rattle.tp_text.proofs.OnLexemes.{placed_step, run_is_word}

pub opening_is : (b : ℕ) → class b ≡ Opening → b ≡ 40
unfolding class
opening_is b h = grind (arith, nat_tests)

pub closing_is : (b : ℕ) → class b ≡ Closing → b ≡ 41
unfolding class
closing_is b h = grind (arith, nat_tests)

pub letter_ascii : (b : ℕ) → class b ≡ Letter → b < 128
unfolding class
letter_ascii b h = grind (arith, nat_tests)

pub letter_not : (b : ℕ) → class b ≡ Letter → (eqb b 40 ≡ false) × (eqb b 41 ≡ false)
unfolding class
letter_not b h = (grind (arith, nat_tests), grind (arith, nat_tests))

pub begins_blank : (b : ℕ) (bs : List ℕ) → class b ≡ Blank → Begins (pieces.Blank 1) (b ∷ bs)
begins_blank b bs is = (omega arith, omega arith, λ at. placed_step at b bs Blank is)

pub begins_bad : (b : ℕ) (bs : List ℕ) → class b ≡ Other → Begins pieces.Bad (b ∷ bs)
begins_bad b bs is at = placed_step at b bs Other is

pub begins_comment : (b : ℕ) (bs : List ℕ) (n : ℕ) → class b ≡ Semicolon → n ≤ length bs → ((at : ℕ) → after_comment at bs ≡ placed (at + n) (drop n bs)) → Begins (pieces.Blank (1 + n)) (b ∷ bs)
begins_comment b bs n is le skips =
    let k : suc n ≡ 1 + n = omega arith in
    subst (λ (m : ℕ). Begins (pieces.Blank m) (b ∷ bs)) k (
      omega arith,
      omega arith,
      λ at.
          placed_step at b bs Semicolon is
          ∙ skips (at + 1)
          ∙ ap (λ (m : ℕ). placed m (drop n bs)) (omega arith),
    )

one_byte_ascii : (b : ℕ) → b < 128 → IsAscii (b ∷ [])
one_byte_ascii b lt = IsAscii-cons b [] lt IsAscii-nil

pub begins_parenthesis : (b : ℕ) (bs : List ℕ) (k : Class) → class b ≡ k → ((k ≡ Opening) ⊎ (k ≡ Closing)) → Begins (pieces.Lexeme 1) (b ∷ bs)
begins_parenthesis b bs k is (inl o) =
    let opens : class b ≡ Opening = is ∙ o in
    let code : b ≡ 40 = opening_is b opens in (
      omega arith,
      omega arith,
      one_byte_ascii b (omega arith),
      λ at.
          placed_step at b bs Opening opens
          ∙ ap (λ (m : Lexeme). before (record { lexeme = m; start = at; stop = at + 1 }) (placed (at + 1) bs)) (ap (λ (c : ℕ). lexeme_of (c ∷ [])) (sym code)),
    )
begins_parenthesis b bs k is (inr o) =
    let closes : class b ≡ Closing = is ∙ o in
    let code : b ≡ 41 = closing_is b closes in (
      omega arith,
      omega arith,
      one_byte_ascii b (omega arith),
      λ at.
          placed_step at b bs Closing closes
          ∙ ap (λ (m : Lexeme). before (record { lexeme = m; start = at; stop = at + 1 }) (placed (at + 1) bs)) (ap (λ (c : ℕ). lexeme_of (c ∷ [])) (sym code)),
    )

-- a word is no parenthesis
lexeme_word : (b : ℕ) (w : List ℕ) → class b ≡ Letter → lexeme_of (b ∷ w) ≡ word (b ∷ w)
lexeme_word b [] is = let n = letter_not b is in rw (n.0, n.1) refl
lexeme_word b (c ∷ w) is = refl

letters_ascii : (w : List ℕ) → All (λ c. class c ≡ Letter) w → IsAscii w
letters_ascii w letters = IsAscii-from_all w (λ k d lt. letter_ascii _ (letters k d lt))

pub begins_word_lexeme : (b : ℕ) (bs : List ℕ) (n : ℕ) → class b ≡ Letter → n ≤ length bs → All (λ c. class c ≡ Letter) (take n bs) → begins_word (drop n bs) ≡ false → Begins (pieces.Lexeme (1 + n)) (b ∷ bs)
begins_word_lexeme b bs n is le letters ends =
    let k : suc n ≡ 1 + n = omega arith in
    let len : length (take n bs) ≡ n = length-take-le n bs le in
    subst (λ (m : ℕ). Begins (pieces.Lexeme m) (b ∷ bs)) k (
      omega arith,
      omega arith,
      IsAscii-cons b (take n bs) (letter_ascii b is) (letters_ascii (take n bs) letters),
      λ at.
          ap (λ (t : List ℕ). placed at (b ∷ t)) (sym (take-append-drop n bs))
          ∙ run_is_word at b (take n bs) (drop n bs) (is, recursion_from_All (λ c. class c ≡ Letter) (take n bs) letters) ends
          ∙ ap (λ (m : ℕ). before (record { lexeme = word (b ∷ take n bs); start = at; stop = at + suc m }) (placed (at + suc m) (drop n bs))) len
          ∙ ap (λ (m : Lexeme). before (record { lexeme = m; start = at; stop = at + suc n }) (placed (at + suc n) (drop n bs))) (sym (lexeme_word b (take n bs) is)),
    )
