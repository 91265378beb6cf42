-- The text of a tree has the tree's lexemes.
use Rattle.std.proofs.Common.{◌≡◌, ℕ, suc, ◌+◌, false, List, [], ◌∷◌, ◌++◌, length, refl, sym, ap, ◌∙◌, subst, append_assoc, append-nil, Ok}
use Rattle.tp_text.specs.Lexemes.{Lexeme, left, right, word, class, begins_word, Placed, placed, before}
use Rattle.tp_text.specs.Shapes.{Shape, leaf, node, Shapes, no_shapes, shape, written, all_written, lexemes_only}
use Rattle.tp_text.specs.Texts.{shape_text, first_text, more_text, IsWord, HasWords, AllHaveWords, TextSpells}
use Rattle.tp_text.specs.declared.lexing.Class.TheVariants.{Blank, Opening, Closing}
use Rattle.tp_text.proofs.OnLexemes.{placed_step, run_is_word}

-- from any place on the bytes have these lexemes
abbrev pub Reads : List ℕ → List Lexeme → Type 0
Reads bytes ms = (at : ℕ) → (ps : List Placed) × (placed at bytes ≡ Ok ps) × (lexemes_only ps ≡ ms)

opening : class 40 ≡ Opening
unfolding class
opening = refl

closing : class 41 ≡ Closing
unfolding class
closing = refl

space : class 32 ≡ Blank
unfolding class
space = refl

pub none : Reads [] []
unfolding placed
none at = ([], refl, refl)

pub reads_left : (bytes : List ℕ) (ms : List Lexeme) → Reads bytes ms → Reads (40 ∷ bytes) (left ∷ ms)
reads_left bytes ms h at =
    let r = h (at + 1) in
    (record { lexeme = left; start = at; stop = at + 1 } ∷ r.0, placed_step at 40 bytes Opening opening ∙ ap (before (record { lexeme = left; start = at; stop = at + 1 })) r.1, ap (λ (ns : List Lexeme). left ∷ ns) r.2)

pub reads_right : (bytes : List ℕ) (ms : List Lexeme) → Reads bytes ms → Reads (41 ∷ bytes) (right ∷ ms)
reads_right bytes ms h at =
    let r = h (at + 1) in
    (record { lexeme = right; start = at; stop = at + 1 } ∷ r.0, placed_step at 41 bytes Closing closing ∙ ap (before (record { lexeme = right; start = at; stop = at + 1 })) r.1, ap (λ (ns : List Lexeme). right ∷ ns) r.2)

pub reads_space : (bytes : List ℕ) (ms : List Lexeme) → Reads bytes ms → Reads (32 ∷ bytes) ms
reads_space bytes ms h at =
    let r = h (at + 1) in
    (r.0, placed_step at 32 bytes Blank space ∙ r.1, r.2)

-- LF is a blank too
line_end : class 10 ≡ Blank
unfolding class
line_end = refl

pub reads_line_end : (bytes : List ℕ) (ms : List Lexeme) → Reads bytes ms → Reads (10 ∷ bytes) ms
reads_line_end bytes ms h at =
    let r = h (at + 1) in
    (r.0, placed_step at 10 bytes Blank line_end ∙ r.1, r.2)

pub line_end_ends : (bytes : List ℕ) → begins_word (10 ∷ bytes) ≡ false
unfolding class
line_end_ends bytes = refl

pub reads_word : (w bytes : List ℕ) (ms : List Lexeme) → IsWord w → begins_word bytes ≡ false → Reads bytes ms → Reads (w ++ bytes) (word w ∷ ms)
reads_word [] bytes ms is ends h = absurd is
reads_word (b ∷ w) bytes ms is ends h = λ at.
    let r = h (at + suc (length w)) in
    let p : Placed = record { lexeme = word (b ∷ w); start = at; stop = at + suc (length w) } in
    (p ∷ r.0, run_is_word at b w bytes is ends ∙ ap (before p) r.1, ap (λ (ns : List Lexeme). word (b ∷ w) ∷ ns) r.2)

-- what follows a member of a list begins no word
ends_member : (ss : Shapes) (rest : List ℕ) → begins_word (more_text ss ++ 41 ∷ rest) ≡ false
unfolding class
ends_member no_shapes rest = refl
ends_member (shape s ss) rest = refl

mutual
  pub reads_shape : (s : Shape) (bytes : List ℕ) (ms : List Lexeme) → HasWords s → begins_word bytes ≡ false → Reads bytes ms → Reads (shape_text s ++ bytes) (written s ++ ms)
  reads_shape (leaf w) bytes ms words ends h = reads_word w bytes ms words ends h
  reads_shape (node ss) bytes ms words ends h =
      subst (λ (t : List ℕ). Reads (40 ∷ t) (left ∷ (all_written ss ++ right ∷ [] ++ ms))) (sym (append_assoc (first_text ss) (41 ∷ []) bytes))
      (subst (λ (ns : List Lexeme). Reads (40 ∷ (first_text ss ++ (41 ∷ bytes))) (left ∷ ns)) (sym (append_assoc (all_written ss) (right ∷ []) ms))
      (reads_left _ _ (reads_first ss bytes ms words h)))

  reads_first : (ss : Shapes) (bytes : List ℕ) (ms : List Lexeme) → AllHaveWords ss → Reads bytes ms → Reads (first_text ss ++ (41 ∷ bytes)) (all_written ss ++ (right ∷ ms))
  reads_first no_shapes bytes ms words h = reads_right bytes ms h
  reads_first (shape s ss) bytes ms words h =
      subst (λ (t : List ℕ). Reads t (written s ++ all_written ss ++ (right ∷ ms))) (sym (append_assoc (shape_text s) (more_text ss) (41 ∷ bytes)))
      (subst (λ (ns : List Lexeme). Reads (shape_text s ++ (more_text ss ++ (41 ∷ bytes))) ns) (sym (append_assoc (written s) (all_written ss) (right ∷ ms)))
      (reads_shape s _ _ words.0 (ends_member ss bytes) (reads_more ss bytes ms words.1 h)))

  reads_more : (ss : Shapes) (bytes : List ℕ) (ms : List Lexeme) → AllHaveWords ss → Reads bytes ms → Reads (more_text ss ++ (41 ∷ bytes)) (all_written ss ++ (right ∷ ms))
  reads_more no_shapes bytes ms words h = reads_right bytes ms h
  reads_more (shape s ss) bytes ms words h =
      reads_space _ _
      (subst (λ (t : List ℕ). Reads t (written s ++ all_written ss ++ (right ∷ ms))) (sym (append_assoc (shape_text s) (more_text ss) (41 ∷ bytes)))
      (subst (λ (ns : List Lexeme). Reads (shape_text s ++ (more_text ss ++ (41 ∷ bytes))) ns) (sym (append_assoc (written s) (all_written ss) (right ∷ ms)))
      (reads_shape s _ _ words.0 (ends_member ss bytes) (reads_more ss bytes ms words.1 h))))

pub text_spells : TextSpells
text_spells s words =
    let r = reads_shape s [] [] words refl none 0 in
    (r.0, ap (placed 0) (sym (append-nil (shape_text s))) ∙ r.1, r.2 ∙ append-nil (written s))
