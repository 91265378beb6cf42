-- Words by their bytes, and that a tree which a text spells has words.
use Rattle.std.proofs.Common.{◌≡◌, ℕ, ◌+◌, ◌≤◌, Bool, true, false, eqb, List, [], ◌∷◌, ◌++◌, refl, sym, ap, ◌∙◌, subst, arith, Ok, Err}
use Rattle.std.specs.List.{AllByRecursion}
use Rattle.std.proofs.lemmas.Bool.Decides.{nat_tests}
use Rattle.tp_text.specs.Lexemes.{Lexeme, left, right, word, class, begins_word, Placed, Lexemes, placed, after_comment, before, extend, longer, letter}
use Rattle.tp_text.specs.Shapes.{Shape, leaf, node, Shapes, no_shapes, shape, written, all_written, lexemes_only, Spells}
use Rattle.tp_text.specs.Texts.{IsWord, HasWords, AllHaveWords}
use Rattle.tp_text.specs.declared.lexing.Class.{Class}
use Rattle.tp_text.specs.declared.lexing.Class.TheVariants.{Blank, Semicolon, Opening, Closing, Letter, Other}
use Rattle.tp_text.proofs.OnLexemes.{placed_step, comment_step, by_class}

-- from '!' to '~', without parentheses and ';'
abbrev pub IsWordByte : ℕ → Type 0
IsWordByte b = (33 ≤ b) × (b ≤ 126) × (b ≡ 40 → ⊥) × (b ≡ 41 → ⊥) × (b ≡ 59 → ⊥)

letter_of : (b : ℕ) → 33 ≤ b → b ≤ 126 → (b ≡ 40 → ⊥) → (b ≡ 41 → ⊥) → (b ≡ 59 → ⊥) → class b ≡ Letter
unfolding class
letter_of b low high not_left not_right not_comment = grind (arith, nat_tests)

letters : (w : List ℕ) → AllByRecursion IsWordByte w → AllByRecursion (λ c. class c ≡ Letter) w
letters [] h = tt
letters (b ∷ w) h = (letter_of b h.0.0 h.0.1 h.0.2 h.0.3 h.0.4, letters w h.1)

pub bytes_word : (b : ℕ) (w : List ℕ) → AllByRecursion IsWordByte (b ∷ w) → IsWord (b ∷ w)
bytes_word b w h = letters (b ∷ w) h

low : (b : ℕ) → class b ≡ Letter → 33 ≤ b
unfolding class
low b h = grind (arith, nat_tests)

high : (b : ℕ) → class b ≡ Letter → b ≤ 126
unfolding class
high b h = grind (arith, nat_tests)

no_left : class 40 ≡ Letter → ⊥
unfolding class
no_left h = cc

no_right : class 41 ≡ Letter → ⊥
unfolding class
no_right h = cc

no_comment : class 59 ≡ Letter → ⊥
unfolding class
no_comment h = cc

word_byte : (b : ℕ) → class b ≡ Letter → IsWordByte b
word_byte b h = (low b h, high b h, λ e. no_left (ap class (sym e) ∙ h), λ e. no_right (ap class (sym e) ∙ h), λ e. no_comment (ap class (sym e) ∙ h))

bytes_of : (w : List ℕ) → AllByRecursion (λ c. class c ≡ Letter) w → AllByRecursion IsWordByte w
bytes_of [] h = tt
bytes_of (b ∷ w) h = (word_byte b h.0, bytes_of w h.1)

pub word_bytes : (w : List ℕ) → IsWord w → AllByRecursion IsWordByte w
word_bytes [] h = absurd h
word_bytes (b ∷ w) h = bytes_of (b ∷ w) h

-- ---- the words among lexemes

abbrev LexemeIsWord : Lexeme → Type 0
LexemeIsWord left = Unit {0}
LexemeIsWord right = Unit {0}
LexemeIsWord (word w) = IsWord w

abbrev AllWords : List Placed → Type 0
AllWords [] = Unit {0}
AllWords (p ∷ ps) = LexemeIsWord p.lexeme × AllWords ps

abbrev HaveWords : Lexemes → Type 0
HaveWords (Ok ps) = AllWords ps
HaveWords (Err e) = Unit {0}

before_words : (p : Placed) (rest : Lexemes) → LexemeIsWord p.lexeme → HaveWords rest → HaveWords (before p rest)
before_words p (Ok ps) is h = (is, h)
before_words p (Err e) is h = tt

longer_word : (at b : ℕ) (p : Placed) (m : Lexeme) → class b ≡ Letter → p.lexeme ≡ m → LexemeIsWord m → LexemeIsWord (longer at b p m).lexeme
longer_word at b p left is same h = subst LexemeIsWord (sym same) tt
longer_word at b p right is same h = subst LexemeIsWord (sym same) tt
longer_word at b p (word []) is same h = absurd h
longer_word at b p (word (c ∷ w)) is same h = (is, h)

extend_words : (at b : ℕ) (rest : Lexemes) → class b ≡ Letter → HaveWords rest → HaveWords (extend at b rest)
extend_words at b (Ok []) is h = tt
extend_words at b (Ok (p ∷ ps)) is h = (longer_word at b p p.lexeme is refl h.0, h.1)
extend_words at b (Err e) is h = tt

letter_words : (joins : Bool) (at b : ℕ) (rest : Lexemes) → class b ≡ Letter → HaveWords rest → HaveWords (letter joins at b rest)
letter_words true at b rest is h = extend_words at b rest is h
letter_words false at b rest is h = before_words (record { lexeme = word (b ∷ []); start = at; stop = at + 1 }) rest (is, tt) h

step_words : (k : Class) (at b : ℕ) (bs : List ℕ) → class b ≡ k → HaveWords (placed (at + 1) bs) → HaveWords (after_comment (at + 1) bs) → HaveWords (by_class k at b bs)
step_words Blank at b bs is h g = h
step_words Semicolon at b bs is h g = g
step_words Opening at b bs is h g = before_words (record { lexeme = left; start = at; stop = at + 1 }) (placed (at + 1) bs) tt h
step_words Closing at b bs is h g = before_words (record { lexeme = right; start = at; stop = at + 1 }) (placed (at + 1) bs) tt h
step_words Letter at b bs is h g = letter_words (begins_word bs) at b (placed (at + 1) bs) is h
step_words Other at b bs is h g = tt

comment_words : (t : Bool) (at b : ℕ) (bs : List ℕ) → eqb b 10 ≡ t → HaveWords (placed (at + 1) bs) → HaveWords (after_comment (at + 1) bs) → HaveWords (after_comment at (b ∷ bs))
comment_words true at b bs is h g = subst HaveWords (sym (comment_step at b bs true is)) h
comment_words false at b bs is h g = subst HaveWords (sym (comment_step at b bs false is)) g

both_words : (at : ℕ) (bytes : List ℕ) → HaveWords (placed at bytes) × HaveWords (after_comment at bytes)
unfolding placed
both_words at [] = (tt, tt)
both_words at (b ∷ bs) =
    let more = both_words (at + 1) bs in
    (subst HaveWords (sym (placed_step at b bs (class b) refl)) (step_words (class b) at b bs refl more.0 more.1), comment_words (eqb b 10) at b bs refl more.0 more.1)

-- ---- the words of a tree

abbrev AllLexemeWords : List Lexeme → Type 0
AllLexemeWords [] = Unit {0}
AllLexemeWords (m ∷ ms) = LexemeIsWord m × AllLexemeWords ms

lexemes_words : (ps : List Placed) → AllWords ps → AllLexemeWords (lexemes_only ps)
lexemes_words [] h = tt
lexemes_words (p ∷ ps) h = (h.0, lexemes_words ps h.1)

split_words : (ms ns : List Lexeme) → AllLexemeWords (ms ++ ns) → AllLexemeWords ms × AllLexemeWords ns
split_words [] ns h = (tt, h)
split_words (m ∷ ms) ns h = let more = split_words ms ns h.1 in ((h.0, more.0), more.1)

mutual
  shape_words : (s : Shape) → AllLexemeWords (written s) → HasWords s
  shape_words (leaf w) h = h.0
  shape_words (node ss) h = shapes_words ss (split_words (all_written ss) (right ∷ []) h.1).0

  shapes_words : (ss : Shapes) → AllLexemeWords (all_written ss) → AllHaveWords ss
  shapes_words no_shapes h = tt
  shapes_words (shape s ss) h =
      let parts = split_words (written s) (all_written ss) h in
      (shape_words s parts.0, shapes_words ss parts.1)

-- a tree that a text spells has words
pub spelled_words : (text : List ℕ) (s : Shape) → Spells text s → HasWords s
spelled_words text s spells = shape_words s (subst AllLexemeWords spells.2 (lexemes_words spells.0 (subst HaveWords spells.1 (both_words 0 text).0)))
