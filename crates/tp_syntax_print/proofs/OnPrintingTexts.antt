-- The text that is printed spells the tree that is printed.
use Rattle.std.proofs.Common.{◌≡◌, ℕ, List, [], ◌∷◌, ◌++◌, false, codes, refl, sym, subst, append_assoc}
use Rattle.tp_text.specs.Lexemes.{Lexeme, left, right, word, class, begins_word}
use Rattle.tp_text.specs.Shapes.{Shapes, no_shapes, shape, written, all_written, Spells}
use Rattle.tp_text.specs.Texts.{shape_text, HasWords, AllHaveWords}
use Rattle.tp_text.proofs.OnTexts.{Reads, none, reads_left, reads_right, reads_space, reads_line_end, reads_word, reads_shape}
use Rattle.tp_text.proofs.OnWords.{spelled_words}
use Rattle.tp_syntax_ast.specs.Domains.{Domain}
use Rattle.tp_syntax_print.specs.Printing.{section_shapes, name_shape, domain_shape}
use Rattle.tp_syntax_print.specs.DomainTexts.{lines_text, domain_text, IsSpelledAgain}
use Rattle.tp_syntax_print.proofs.OnPrintingDomains.{domain_again}

line_ends_word : (bytes : List ℕ) → begins_word (10 ∷ bytes) ≡ false
unfolding class
line_ends_word bytes = refl

space_ends_word : (bytes : List ℕ) → begins_word (32 ∷ bytes) ≡ false
unfolding class
space_ends_word bytes = refl

reads_lines : (ss : Shapes) (bytes : List ℕ) (ms : List Lexeme) → AllHaveWords ss → Reads bytes ms → Reads (lines_text ss ++ bytes) (all_written ss ++ ms)
reads_lines no_shapes bytes ms words h = h
reads_lines (shape s ss) bytes ms words h =
    subst (λ (t : List ℕ). Reads t ((written s ++ all_written ss) ++ ms)) (sym (append_assoc (shape_text s) (10 ∷ lines_text ss) bytes))
    (subst (λ (ns : List Lexeme). Reads (shape_text s ++ (10 ∷ (lines_text ss ++ bytes))) ns) (sym (append_assoc (written s) (all_written ss) ms))
    (reads_shape s (10 ∷ (lines_text ss ++ bytes)) (all_written ss ++ ms) words.0 (line_ends_word (lines_text ss ++ bytes)) (reads_line_end (lines_text ss ++ bytes) (all_written ss ++ ms) (reads_lines ss bytes ms words.1 h))))

text_spells : (d : Domain) → HasWords (domain_shape d) → Spells (domain_text d) (domain_shape d)
text_spells d words =
    let n = name_shape d in
    let ss = section_shapes d in
    let end : List ℕ = 41 ∷ 10 ∷ [] in
    let rest = shape_text n ++ 10 ∷ (lines_text ss ++ end) in
    let ms = all_written ss ++ right ∷ [] in
    let closing = reads_right (10 ∷ []) [] (reads_line_end [] [] none) in
    let lines = reads_lines ss end (right ∷ []) words.1.1 closing in
    let name = reads_shape n (10 ∷ (lines_text ss ++ end)) ms words.1.0 (line_ends_word (lines_text ss ++ end)) (reads_line_end (lines_text ss ++ end) ms lines) in
    let all = reads_left (codes "define" ++ (32 ∷ rest)) (word (codes "define") ∷ (written n ++ ms)) (reads_word (codes "define") (32 ∷ rest) (written n ++ ms) words.0 (space_ends_word rest) (reads_space rest (written n ++ ms) name)) in
    subst (λ (ns : List Lexeme). Reads (domain_text d) (left ∷ word (codes "define") ∷ ns)) (sym (append_assoc (written n) (all_written ss) (right ∷ []))) all 0

pub spelled_again : (d : Domain) → IsSpelledAgain d
spelled_again d text h =
    let again = domain_again h.0 d (spelled_words text h.0 h.1) h.2 in
    (domain_shape d, text_spells d again.1, again.0)
