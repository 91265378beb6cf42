-- What tokens show of a text.
use Rattle.std.specs.Prelude.{◌≡◌, ℕ, ◌+◌, ◌-◌, ◌≤◌, ◌<◌, Bool, false, take, drop, List, [], ◌∷◌, length, ◌==◌, if◌then◌else◌, Option, Some, None, Ok, Err}
use Rattle.tp_text.specs.Lexemes as lexemes
use Rattle.tp_text.specs.Lexemes.{left, right, word, Placed, Lexemes, before, placed}
use Rattle.tp_text.specs.declared.fault.TextFault.{TextFault}
use Rattle.tp_text.specs.declared.fault.TextFault.TheVariants as faults
use Rattle.tp_text.specs.declared.token.Token.{Token}
use Rattle.tp_text.specs.declared.lexing.Next.{Next}
use Rattle.tp_text.specs.declared.lexing.Piece.{Piece}
use Rattle.tp_text.specs.declared.lexing.Piece.TheVariants.{Blank, Lexeme, Bad}
use Rattle.std.specs.Str.{IsAscii}

abbrev pub max_text : ℕ
max_text = 1048576

-- one byte, and this one
abbrev pub is_byte : ℕ → List ℕ → Bool
is_byte b [] = false
is_byte b (c ∷ []) = c == b
is_byte b (c ∷ d ∷ cs) = false

-- the lexeme that these bytes are
abbrev pub lexeme_of : List ℕ → lexemes.Lexeme
lexeme_of text = if is_byte 40 text then left else (if is_byte 41 text then right else word text)

abbrev pub placed_of : Token → Placed
placed_of t = record { lexeme = lexeme_of t.text.now; start = t.span.start; stop = t.span.stop }

-- when a text is refused before its lexemes are known
abbrev pub HasNoLexemes : List ℕ → TextFault → Type 0
HasNoLexemes text faults.Memory = Unit {0}
HasNoLexemes text faults.TooLong = max_text < length text
HasNoLexemes text (faults.BadByte at) = placed 0 text ≡ Err at
HasNoLexemes text (faults.Unclosed at) = ⊥
HasNoLexemes text (faults.Extra at) = ⊥
HasNoLexemes text (faults.Depth at) = ⊥
HasNoLexemes text faults.Empty = ⊥

-- the first token among bytes from a place on, if there is one, and what stands behind it
abbrev pub ComesFirst : ℕ → List ℕ → Option Next → Type 0
ComesFirst at bytes None = placed at bytes ≡ Ok []
ComesFirst at bytes (Some n) = placed at bytes ≡ before (placed_of n.token) (placed n.at n.rest.now)

-- it is the slice at its place, behind blanks and comments, and the rest begins where it ends
pub record StandsFirst (at : ℕ) (bytes : List ℕ) (n : Next) : Type 0 where
  pub behind : at ≤ n.token.span.start
  pub blanks :
      placed at bytes ≡ placed n.token.span.start (drop (n.token.span.start - at) bytes)
  pub some : n.token.span.start < n.token.span.stop
  pub slice :
      n.token.text.now
      ≡ take (n.token.span.stop - n.token.span.start) (drop (n.token.span.start - at) bytes)
  pub rest : n.rest.now ≡ drop (n.token.span.stop - at) bytes
  pub next : n.at ≡ n.token.span.stop

-- a byte among these may not stand where it does
abbrev pub IsBad : ℕ → List ℕ → TextFault → Type 0
IsBad at bytes faults.Memory = ⊥
IsBad at bytes faults.TooLong = ⊥
IsBad at bytes (faults.BadByte k) = placed at bytes ≡ Err k
IsBad at bytes (faults.Unclosed k) = ⊥
IsBad at bytes (faults.Extra k) = ⊥
IsBad at bytes (faults.Depth k) = ⊥
IsBad at bytes faults.Empty = ⊥

-- what stands at the front of bytes, and how long it is
abbrev pub Begins : Piece → List ℕ → Type 0
Begins (Blank n) bytes =
    (0 < n) × (n ≤ length bytes) × ((at : ℕ) → placed at bytes ≡ placed (at + n) (drop n bytes))
Begins (Lexeme n) bytes =
    (0 < n)
    × (n ≤ length bytes)
    × IsAscii (take n bytes)
    × ((at : ℕ) → placed at bytes ≡ before (record {
      lexeme = lexeme_of (take n bytes);
      start = at;
      stop = at + n;
    }) (placed (at + n) (drop n bytes)))
Begins Bad bytes = (at : ℕ) → placed at bytes ≡ Err at

-- Tokens in order behind a place of a text: no lexeme stands before the first (so only blanks and comments do), each is the
-- slice at its span, the next begins where it ends or later, and no lexeme stands behind the last.
abbrev pub Covers : List ℕ → ℕ → List Token → Type 0
Covers text from [] = placed from (drop from text) ≡ Ok []
Covers text from (t ∷ ts) =
    (from ≤ t.span.start)
    × (placed from (drop from text) ≡ placed t.span.start (drop t.span.start text))
    × (t.span.start < t.span.stop)
    × (t.text.now ≡ take (t.span.stop - t.span.start) (drop t.span.start text))
    × Covers text t.span.stop ts
