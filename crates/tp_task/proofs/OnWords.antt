-- Words that are the same.
use Rattle.std.proofs.Common.{◌≡◌, Bool, true, false, ◌&&◌, [], ◌∷◌, refl, ap₂}
use Rattle.std.specs.Str.{bytes_eq}
use Rattle.std.proofs.lemmas.Bool.{and_from}
use Rattle.std.proofs.lemmas.Slice.Eq.{bytes_eq-Decides}
use Rattle.tp_syntax_ast.specs.Symbols.{Name}
use Rattle.tp_task.specs.Words.{Words, same_words}

both : (a b : Bool) → (a && b) ≡ true → (a ≡ true) × (b ≡ true)
both true b h = (refl, h)
both false b h = cc

pub same_words_are : (a b : Words) → same_words a b ≡ true → a ≡ b
same_words_are [] [] h = refl
same_words_are [] (y ∷ ys) h = cc
same_words_are (x ∷ xs) [] h = cc
same_words_are (x ∷ xs) (y ∷ ys) h =
    let parts = both (bytes_eq x y) (same_words xs ys) h in
    ap₂ (λ (w : Name) (ws : Words). w ∷ ws) ((bytes_eq-Decides x y).0 parts.0) (same_words_are xs ys parts.1)

pub same_words_self : (a : Words) → same_words a a ≡ true
same_words_self [] = refl
same_words_self (x ∷ xs) = and_from (bytes_eq x x) (same_words xs xs) ((bytes_eq-Decides x x).1 refl) (same_words_self xs)
