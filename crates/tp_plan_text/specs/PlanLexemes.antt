-- The lexemes of a line of a plan text: its words and its signs in order.
use Rattle.std.specs.Prelude.{ℕ, List, [], ◌∷◌, Bool, true, false, ◌==◌, ◌&&◌, ◌||◌, nat_le, if◌then◌else◌, Option, Some, None}
use Rattle.tp_plan_text.specs.declared.tokens.ByteKind.{ByteKind}
use Rattle.tp_plan_text.specs.declared.tokens.ByteKind.TheVariants.{Blank, Semicolon, Letter, Alone}
use Rattle.tp_plan_text.specs.declared.tokens.Token as shown
use Rattle.tp_plan_text.specs.declared.tokens.Token.TheVariants as shapes

-- a word, or a byte that stands alone
pub data Lexeme : Type 0 where
  word : List ℕ → Lexeme
  sign : ℕ → Lexeme

-- ':', '(', ')', '[', ']'
abbrev pub is_sign : ℕ → Bool
is_sign b = b == 58 || (b == 40 || (b == 41 || (b == 91 || b == 93)))

-- space, tab, LF, VT, FF, CR; ';'; the rest from '!' to '~' but the signs; every other byte
unfoldable pub kind : ℕ → ByteKind
kind b =
    if b == 32 || (nat_le 9 b && nat_le b 13) then Blank
    else (if b == 59 then Semicolon
    else (if is_sign b then Alone
    else (if nat_le 33 b && nat_le b 126 then Letter
    else Alone)))

abbrev pub is_letter : ByteKind → Bool
is_letter Letter = true
is_letter _ = false

abbrev pub is_blank : ByteKind → Bool
is_blank Blank = true
is_blank _ = false

abbrev pub begins_blank : List ℕ → Bool
begins_blank [] = false
begins_blank (b ∷ bs) = is_blank (kind b)

abbrev pub begins_word : List ℕ → Bool
begins_word [] = false
begins_word (b ∷ bs) = is_letter (kind b)

-- a letter before the word that comes first
abbrev pub longer : ℕ → List Lexeme → List Lexeme
longer b (word w ∷ ms) = word (b ∷ w) ∷ ms
longer b (sign s ∷ ms) = sign s ∷ ms
longer b [] = []

-- A word is a longest run of letters: a letter begins the word that follows it at once, or is one by itself.
abbrev pub letter : Bool → ℕ → List Lexeme → List Lexeme
letter true b ms = longer b ms
letter false b ms = word (b ∷ []) ∷ ms

-- Blanks part words, a comment runs to the end of the line, and every other byte that is no letter stands alone.
unfoldable pub lexemes : List ℕ → List Lexeme
lexemes [] = []
lexemes (b ∷ bs) = elim (kind b) [
  | Blank ↦ lexemes bs
  | Semicolon ↦ []
  | Letter ↦ letter (begins_word bs) b (lexemes bs)
  | Alone ↦ sign b ∷ lexemes bs
]

-- what a lexeme of the code is
abbrev pub seen : shown.Token → Lexeme
seen (shapes.Word w) = word w.now
seen (shapes.Sign b) = sign b

abbrev pub is_bare : List Lexeme → Bool
is_bare [] = true
is_bare (m ∷ ms) = false

-- a word that comes first, and what follows it
abbrev pub word_first : List Lexeme → Option (List ℕ × List Lexeme)
word_first [] = None
word_first (word w ∷ ms) = Some (w, ms)
word_first (sign b ∷ ms) = None

-- what follows this sign, if it comes first
abbrev pub sign_first : ℕ → List Lexeme → Option (List Lexeme)
sign_first wanted [] = None
sign_first wanted (word w ∷ ms) = None
sign_first wanted (sign b ∷ ms) = if b == wanted then Some ms else None
