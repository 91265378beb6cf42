-- Lemmas on the lexemes of bytes.
use Rattle.std.proofs.Common.{◌≡◌, ℕ, suc, ◌+◌, ◌-◌, ◌<◌, ◌≤◌, true, false, List, [], ◌∷◌, ◌++◌, length, take, drop, get_or, All, refl, sym, ap, ◌∙◌, subst, arith, ◌⊎◌, inl, inr, Result, Ok, Err, take-append-drop}
use Rattle.std.specs.Prelude.{MatchResult}
use Rattle.std.specs.Result.{IsOk}
use Rattle.std.specs.Str.{IsAscii, IsUtf8}
use Rattle.std.specs.List.{AllByRecursion}
use Rattle.std.proofs.lemmas.Bool.Decides.{nat_tests}
use Rattle.std.proofs.lemmas.Str.{IsUtf8-from_ascii}
use Rattle.std.proofs.lemmas.Str.Ascii.{IsAscii-from_all, IsAscii-cons}
use Rattle.std.proofs.lemmas.List.{at_drop_more, take_rest}
use Rattle.std.proofs.lemmas.List.Elements.{recursion_from_All}
use Rattle.tp_plan_text.specs.PlanLexemes.{Lexeme, word, sign, kind, is_blank, is_letter, begins_blank, begins_word, letter, longer, lexemes}
use Rattle.tp_plan_text.specs.declared.tokens.ByteKind.{ByteKind}
use Rattle.tp_plan_text.specs.declared.tokens.ByteKind.TheVariants.{Blank, Semicolon, Letter, Alone}

-- text that is ASCII has no fault
pub utf8_text : {T E : Type 0} (P : T → Type 0) (Q : E → Type 0) (bytes : List ℕ) (r : Result T E) → IsAscii bytes → MatchResult r P (λ e. (¬ (IsUtf8 bytes)) × Q e) → IsOk r
utf8_text P Q bytes (Ok s) ascii h = refl
utf8_text P Q bytes (Err e) ascii h = absurd (h.0 (IsUtf8-from_ascii bytes ascii))

-- a byte before others, by its kind
abbrev pub by_kind : ByteKind → ℕ → List ℕ → List Lexeme
by_kind k b bs = elim k as (λ w. List Lexeme) [
  | Blank ↦ lexemes bs
  | Semicolon ↦ []
  | Letter ↦ letter (begins_word bs) b (lexemes bs)
  | Alone ↦ sign b ∷ lexemes bs
]

pub lexeme_step : (b : ℕ) (bs : List ℕ) (k : ByteKind) → kind b ≡ k → lexemes (b ∷ bs) ≡ by_kind k b bs
unfolding lexemes
lexeme_step b bs k e = ap (λ (v : ByteKind). by_kind v b bs) e

pub no_lexemes : (bs : List ℕ) → length bs < 1 → lexemes bs ≡ []
unfolding lexemes
no_lexemes [] lt = refl
no_lexemes (b ∷ bs) lt = absurd (let no : ⊥ = omega arith in no)

-- blanks do not count
pub blank_passed : (line : List ℕ) (n : ℕ) → n < length line → kind (get_or line n 0) ≡ Blank → lexemes (drop n line) ≡ lexemes (drop (n + 1) line)
blank_passed line n lt is = at_drop_more lexemes line n 0 lt ∙ lexeme_step (get_or line n 0) (drop (n + 1) line) Blank is

letter_ascii : (b : ℕ) → kind b ≡ Letter → b < 128
unfolding kind
letter_ascii b h = grind (arith, nat_tests)

letters_ascii : (w : List ℕ) → All (λ c. kind c ≡ Letter) w → IsAscii w
letters_ascii w letters = IsAscii-from_all w (λ k d lt. letter_ascii _ (letters k d lt))

-- a run of letters with no letter after it is one word
pub run_is_word : (b : ℕ) (w rest : List ℕ) → AllByRecursion (λ c. kind c ≡ Letter) (b ∷ w) → begins_word rest ≡ false → lexemes (b ∷ (w ++ rest)) ≡ word (b ∷ w) ∷ lexemes rest
run_is_word b [] rest letters ends = lexeme_step b rest Letter letters.0 ∙ ap (λ t. letter t b (lexemes rest)) ends
run_is_word b (c ∷ w) rest letters ends =
    let goes_on : begins_word (c ∷ (w ++ rest)) ≡ true = ap is_letter letters.1.0 in
    lexeme_step b (c ∷ (w ++ rest)) Letter letters.0
    ∙ ap (λ t. letter t b (lexemes (c ∷ (w ++ rest)))) goes_on
    ∙ ap (longer b) (run_is_word c w rest letters.1 ends)

front_word : (b : ℕ) (bs : List ℕ) (n : ℕ) → kind b ≡ Letter → All (λ c. kind c ≡ Letter) (take n bs) → begins_word (drop n bs) ≡ false → lexemes (b ∷ bs) ≡ word (b ∷ take n bs) ∷ lexemes (drop n bs)
front_word b bs n is letters ends =
    ap (λ (t : List ℕ). lexemes (b ∷ t)) (sym (take-append-drop n bs))
    ∙ run_is_word b (take n bs) (drop n bs) (is, recursion_from_All (λ c. kind c ≡ Letter) (take n bs) letters) ends

-- What a line begins with, by the kind of its first byte. The rest is as a pattern takes it.
pub none_before : (line : List ℕ) (k : ByteKind) → 1 ≤ length line → kind (get_or line 0 0) ≡ k → (k ≡ Blank) ⊎ (k ≡ Semicolon) → begins_blank line ≡ false → lexemes line ≡ []
none_before [] k le is which not_blank = absurd (let no : ⊥ = omega arith in no)
none_before (b ∷ bs) k le is (inl e) not_blank = let no : true ≡ false = sym (ap is_blank (is ∙ e)) ∙ not_blank in absurd (let none : ⊥ = cc in none)
none_before (b ∷ bs) k le is (inr e) not_blank = lexeme_step b bs Semicolon (is ∙ e)

pub sign_before : (line : List ℕ) → 1 ≤ length line → kind (get_or line 0 0) ≡ Alone → lexemes line ≡ sign (get_or line 0 0) ∷ lexemes (take (length line - 1) (drop 1 line))
sign_before [] le is = absurd (let no : ⊥ = omega arith in no)
sign_before (b ∷ bs) le is = lexeme_step b bs Alone is ∙ ap (λ r. sign b ∷ lexemes r) (sym (take_rest (b ∷ bs) 1))

pub word_before : (line w after : List ℕ) (n : ℕ) → 1 ≤ length line → kind (get_or line 0 0) ≡ Letter → All (λ c. kind c ≡ Letter) (take n (take (length line - 1) (drop 1 line))) → begins_word (drop n (take (length line - 1) (drop 1 line))) ≡ false → w ≡ take (1 + n) line → after ≡ drop (1 + n) line → lexemes line ≡ word w ∷ lexemes after
word_before [] w after n le is letters longest front back = absurd (let no : ⊥ = omega arith in no)
word_before (b ∷ bs) w after n le is letters longest front back =
    let same : take (length (b ∷ bs) - 1) (drop 1 (b ∷ bs)) ≡ bs = take_rest (b ∷ bs) 1 in
    let k : suc n ≡ 1 + n = omega arith in
    front_word b bs n is (subst (λ r. All (λ c. kind c ≡ Letter) (take n r)) same letters) (subst (λ r. begins_word (drop n r) ≡ false) same longest)
    ∙ ap (λ m. word (take m (b ∷ bs)) ∷ lexemes (drop m (b ∷ bs))) k
    ∙ ap (λ v. word v ∷ lexemes (drop (1 + n) (b ∷ bs))) (sym front)
    ∙ ap (λ v. word w ∷ lexemes v) (sym back)

pub word_ascii : (line w : List ℕ) (n : ℕ) → 1 ≤ length line → kind (get_or line 0 0) ≡ Letter → All (λ c. kind c ≡ Letter) (take n (take (length line - 1) (drop 1 line))) → w ≡ take (1 + n) line → IsAscii w
word_ascii [] w n le is letters front = absurd (let no : ⊥ = omega arith in no)
word_ascii (b ∷ bs) w n le is letters front =
    let same : take (length (b ∷ bs) - 1) (drop 1 (b ∷ bs)) ≡ bs = take_rest (b ∷ bs) 1 in
    let k : suc n ≡ 1 + n = omega arith in
    let ascii : IsAscii (take (suc n) (b ∷ bs)) = IsAscii-cons b (take n bs) (letter_ascii b is) (letters_ascii (take n bs) (subst (λ r. All (λ c. kind c ≡ Letter) (take n r)) same letters)) in
    subst (λ v. IsAscii v) (ap (λ m. take m (b ∷ bs)) k ∙ sym front) ascii
