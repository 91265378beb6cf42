-- What the words of a line make.
use Rattle.std.proofs.Common.{◌≡◌, ℕ, ◌<◌, ◌&&◌, true, false, List, [], ◌∷◌, length, refl, ap, ◌∙◌, arith, codes}
use Rattle.std.specs.Str.{bytes_eq}
use Rattle.std.proofs.lemmas.Slice.Eq.{bytes_eq-Decides}
use Rattle.tp_script.specs.Words.{words_of, words_from}
use Rattle.tp_script.specs.Commands.{moment_of}
use Rattle.tp_journal.specs.Form.{is_answer_from, is_neat, is_own_from, is_own_line, is_number, are_ends}

pub no_answer : (ws : List (List ℕ)) (name rest : List ℕ) → ws ≡ words_from name rest → bytes_eq name (codes "ok") ≡ false → bytes_eq name (codes "bound") ≡ false → bytes_eq name (codes "window") ≡ false → bytes_eq name (codes "report") ≡ false → bytes_eq name (codes "refused") ≡ false → is_answer_from ws ≡ false
no_answer ws [] rest is a b c d e = ap is_answer_from is
no_answer ws (x ∷ xs) rest is a b c d e = ap is_answer_from is ∙ rw (a, b, c, d, e) refl

pub own_line_is : (id : ℕ) (line name i f t w : List ℕ) → is_neat line ≡ true → words_of line ≡ name ∷ i ∷ f ∷ t ∷ w ∷ [] → bytes_eq name (codes "bound") ≡ true → is_number id (moment_of i) ≡ true → bytes_eq w (codes "-0") ≡ false → is_own_line id line ≡ are_ends f t w
own_line_is id line name i f t w neat words named numbered weighed =
    ap (λ b. b && is_own_from id (words_of line)) neat ∙ (ap (is_own_from id) words ∙ rw (named, numbered, weighed) refl)

pub some_of : (name : List ℕ) → bytes_eq name (codes "bound") ≡ true → 0 < length name
some_of name is = let n : length name ≡ 5 = ap length ((bytes_eq-Decides name (codes "bound")).0 is) in omega (arith, n)
