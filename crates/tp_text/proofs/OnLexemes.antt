-- Lemmas on the lexemes of bytes.
use Rattle.std.proofs.Common.{◌≡◌, ℕ, suc, ◌+◌, ◌<◌, ◌≤◌, Bool, true, false, eqb, List, [], ◌∷◌, ◌++◌, length, drop, get_or, refl, sym, ap, ◌∙◌, arith, Result, Ok, Err}
use Rattle.std.specs.Prelude.{MatchResult}
use Rattle.std.specs.Result.{IsOk}
use Rattle.std.specs.Str.{IsAscii, IsUtf8}
use Rattle.std.specs.List.{AllByRecursion}
use Rattle.std.proofs.lemmas.Bool.{ne_eqb, eq-eqb}
use Rattle.std.proofs.lemmas.Str.{IsUtf8-from_ascii}
use Rattle.std.proofs.lemmas.List.{at_drop_more, at_drop_all}
use Rattle.tp_text.specs.Lexemes.{left, right, word, class, is_letter, begins_word, Lexemes, placed, after_comment, before, extend, letter}
use Rattle.tp_text.specs.declared.lexing.Class.{Class}
use Rattle.tp_text.specs.declared.lexing.Class.TheVariants.{Blank, Semicolon, Opening, Closing, Letter, Other}

-- text that is ASCII has no fault
pub utf8_text : {T E : Type 0} (P : T → Type 0) (Q : E → Type 0) (bytes : List ℕ) (r : Result T E) → IsAscii bytes → MatchResult r P (λ e. (¬ (IsUtf8 bytes)) × Q e) → IsOk r
utf8_text P Q bytes (Ok s) ascii h = refl
utf8_text P Q bytes (Err e) ascii h = absurd (h.0 (IsUtf8-from_ascii bytes ascii))

-- one byte of a comment, by whether it is an LF
pub comment_step : (at b : ℕ) (bs : List ℕ) (t : Bool) → eqb b 10 ≡ t → after_comment at (b ∷ bs) ≡ elim t [ true ↦ placed (at + 1) bs | false ↦ after_comment (at + 1) bs ]
unfolding placed
comment_step at b bs t e = ap (λ (v : Bool). elim v as (λ w. Lexemes) [ true ↦ placed (at + 1) bs | false ↦ after_comment (at + 1) bs ]) e

-- one byte between words and comments, by its class
abbrev pub by_class : Class → ℕ → ℕ → List ℕ → Lexemes
by_class k at b bs = elim k as (λ w. Lexemes) [
  | Blank ↦ placed (at + 1) bs
  | Semicolon ↦ after_comment (at + 1) bs
  | Opening ↦ before (record { lexeme = left; start = at; stop = at + 1 }) (placed (at + 1) bs)
  | Closing ↦ before (record { lexeme = right; start = at; stop = at + 1 }) (placed (at + 1) bs)
  | Letter ↦ letter (begins_word bs) at b (placed (at + 1) bs)
  | Other ↦ Err at
]

pub placed_step : (at b : ℕ) (bs : List ℕ) (k : Class) → class b ≡ k → placed at (b ∷ bs) ≡ by_class k at b bs
unfolding placed
placed_step at b bs k e = ap (λ (v : Class). by_class v at b bs) e

-- a comment goes on
pub comment_goes_on : (at n : ℕ) (bytes : List ℕ) → n < length bytes → (get_or bytes n 0 ≡ 10 → ⊥) → after_comment (at + n) (drop n bytes) ≡ after_comment (at + (n + 1)) (drop (n + 1) bytes)
comment_goes_on at n bytes lt ne =
    at_drop_more (after_comment (at + n)) bytes n 0 lt
    ∙ comment_step (at + n) (get_or bytes n 0) (drop (n + 1) bytes) false (ne_eqb _ _ ne)
    ∙ ap (λ (k : ℕ). after_comment k (drop (n + 1) bytes)) (omega arith)

pub comment_ends : (at n : ℕ) (bytes : List ℕ) → n < length bytes → get_or bytes n 0 ≡ 10 → after_comment (at + n) (drop n bytes) ≡ placed (at + (n + 1)) (drop (n + 1) bytes)
comment_ends at n bytes lt is =
    at_drop_more (after_comment (at + n)) bytes n 0 lt
    ∙ comment_step (at + n) (get_or bytes n 0) (drop (n + 1) bytes) true (eq-eqb _ _ is)
    ∙ ap (λ (k : ℕ). placed k (drop (n + 1) bytes)) (omega arith)

pub comment_over : (at n : ℕ) (bytes : List ℕ) → length bytes ≤ n → after_comment (at + n) (drop n bytes) ≡ placed (at + n) (drop n bytes)
unfolding placed
comment_over at n bytes le = at_drop_all (after_comment (at + n)) bytes n le ∙ sym (at_drop_all (placed (at + n)) bytes n le)

extend_before : (at b c : ℕ) (w : List ℕ) (rest : Lexemes) → extend at b (before (record { lexeme = word (c ∷ w); start = at + 1; stop = at + 1 + suc (length w) }) rest) ≡ before (record { lexeme = word (b ∷ c ∷ w); start = at; stop = at + 1 + suc (length w) }) rest
extend_before at b c w (Ok ps) = refl
extend_before at b c w (Err e) = refl

-- a run of letters with no letter after it is one word
pub run_is_word : (at b : ℕ) (w rest : List ℕ) → AllByRecursion (λ c. class c ≡ Letter) (b ∷ w) → begins_word rest ≡ false → placed at (b ∷ (w ++ rest)) ≡ before (record { lexeme = word (b ∷ w); start = at; stop = at + suc (length w) }) (placed (at + suc (length w)) rest)
run_is_word at b [] rest letters ends =
    placed_step at b rest Letter letters.0
    ∙ ap (λ (t : Bool). letter t at b (placed (at + 1) rest)) ends
run_is_word at b (c ∷ w) rest letters ends =
    let goes_on : begins_word (c ∷ (w ++ rest)) ≡ true = ap is_letter letters.1.0 in
    let k : at + 1 + suc (length w) ≡ at + suc (suc (length w)) = omega arith in
    placed_step at b (c ∷ (w ++ rest)) Letter letters.0
    ∙ ap (λ (t : Bool). letter t at b (placed (at + 1) (c ∷ (w ++ rest)))) goes_on
    ∙ ap (extend at b) (run_is_word (at + 1) c w rest letters.1 ends)
    ∙ extend_before at b c w (placed (at + 1 + suc (length w)) rest)
    ∙ ap (λ (n : ℕ). before (record { lexeme = word (b ∷ c ∷ w); start = at; stop = n }) (placed n rest)) k
