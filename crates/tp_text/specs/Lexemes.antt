-- The lexemes of a text, with their places: its parentheses and words in order.
use Rattle.std.specs.Prelude.{ℕ, ◌+◌, List, [], ◌∷◌, ◌++◌, Bool, true, false, ◌&&◌, ◌||◌, ◌==◌, nat_le, if◌then◌else◌, Result, Ok, Err}
use Rattle.tp_text.specs.declared.lexing.Class.{Class}
use Rattle.tp_text.specs.declared.lexing.Class.TheVariants.{Blank, Semicolon, Opening, Closing, Letter, Other}

pub data Lexeme : Type 0 where
  left : Lexeme
  right : Lexeme
  word : List ℕ → Lexeme

-- space, tab, LF, VT, FF, CR; ';'; '('; ')'; the rest from '!' to '~'; every other byte
unfoldable pub class : ℕ → Class
class b =
    if b == 32 || (nat_le 9 b && nat_le b 13) then Blank
    else (if b == 59 then Semicolon
    else (if b == 40 then Opening
    else (if b == 41 then Closing
    else (if nat_le 33 b && nat_le b 126 then Letter
    else Other))))

abbrev pub is_letter : Class → Bool
is_letter Letter = true
is_letter _ = false

-- a lexeme, and where it stands: from start, up to but not at stop
pub record Placed : Type 0 where
  pub lexeme : Lexeme
  pub start : ℕ
  pub stop : ℕ

abbrev pub Lexemes : Type 0
Lexemes = Result (List Placed) ℕ

-- lexemes that stand before those of the rest
abbrev pub with_front : List Placed → Lexemes → Lexemes
with_front front (Ok ps) = Ok (front ++ ps)
with_front front (Err at) = Err at

abbrev pub before : Placed → Lexemes → Lexemes
before p rest = with_front (p ∷ []) rest

-- the letter b at a place stands before the word that comes first
abbrev pub longer : ℕ → ℕ → Placed → Lexeme → Placed
longer at b p (word w) = record { lexeme = word (b ∷ w); start = at; stop = p.stop }
longer at b p _ = p

abbrev pub extended : ℕ → ℕ → List Placed → List Placed
extended at b [] = []
extended at b (p ∷ ps) = longer at b p p.lexeme ∷ ps

abbrev pub extend : ℕ → ℕ → Lexemes → Lexemes
extend at b (Ok ps) = Ok (extended at b ps)
extend at b (Err e) = Err e

abbrev pub begins_word : List ℕ → Bool
begins_word [] = false
begins_word (b ∷ bs) = is_letter (class b)

-- A word is a longest run of letters: the letter b begins the word that follows it at once, or is one by itself.
abbrev pub letter : Bool → ℕ → ℕ → Lexemes → Lexemes
letter true at b rest = extend at b rest
letter false at b rest = before (record { lexeme = word (b ∷ []); start = at; stop = at + 1 }) rest

-- The lexemes of the bytes from a place on, or the place of the first byte that may not stand there.
unfoldable mutual
  pub placed : ℕ → List ℕ → Lexemes
  placed at [] = Ok []
  placed at (b ∷ bs) = elim (class b) [
    | Blank ↦ placed (at + 1) bs
    | Semicolon ↦ after_comment (at + 1) bs
    | Opening ↦ before (record { lexeme = left; start = at; stop = at + 1 }) (placed (at + 1) bs)
    | Closing ↦ before (record { lexeme = right; start = at; stop = at + 1 }) (placed (at + 1) bs)
    | Letter ↦ letter (begins_word bs) at b (placed (at + 1) bs)
    | Other ↦ Err at
  ]

  -- a comment runs to the end of its line
  pub after_comment : ℕ → List ℕ → Lexemes
  after_comment at [] = Ok []
  after_comment at (b ∷ bs) =
      elim (b == 10) [ true ↦ placed (at + 1) bs | false ↦ after_comment (at + 1) bs ]
