-- Words are found by the numbers of their names.
use Rattle.std.proofs.Common.{◌≡◌, ℕ, zero, suc, ◌+◌, ◌<◌, Bool, true, false, cond, ◌&&◌, ◌||◌, List, [], ◌∷◌, map, length, get_or, nat_eq, Some, None, refl, ap, ◌∙◌, arith, true≢false}
use Rattle.std.proofs.Math.Bool.{and-false}
use Rattle.std.specs.List.{list_any, AllByRecursion, IsDistinct, position_from}
use Rattle.std.specs.Str.{bytes_eq}
use Rattle.std.specs.Cmp.Lexicographic.{pointwise}
use Rattle.tp_task.specs.Words.{Words, same_words}
use Rattle.tp_task.specs.Labels.{named, are_known, AreNamed}
use Rattle.tp_task.proofs.OnLabels.{same_label}

-- the same place by words and by numbers
pub same_position : (ns : List (List ℕ)) → IsDistinct bytes_eq ns → (a : List ℕ) (ls : List (List ℕ)) (k : ℕ) → AreNamed (length ns) a → AllByRecursion (AreNamed (length ns)) ls → position_from (same_words (named ns a)) k (map (named ns) ls) ≡ position_from (pointwise nat_eq a) k ls
same_position ns d a [] k ha h = refl
same_position ns d a (l ∷ ls) k ha h =
    ap (λ t. cond t (Some k) (position_from (same_words (named ns a)) (k + 1) (map (named ns) ls))) (same_label ns d a l ha h.0)
    ∙ ap (λ o. cond (pointwise nat_eq a l) (Some k) o) (same_position ns d a ls (k + 1) ha h.1)

neither : (a b : Bool) → (a || b) ≡ false → (a ≡ false) × (b ≡ false)
neither true b h = absurd (true≢false h)
neither false b h = (refl, h)

missing : (n : List ℕ) (ns : List (List ℕ)) → list_any (bytes_eq n) ns ≡ false → (j : ℕ) → j < length ns → bytes_eq n (get_or ns j []) ≡ false
missing n [] e j lt = absurd (omega arith)
missing n (x ∷ xs) e zero lt = (neither (bytes_eq n x) (list_any (bytes_eq n) xs) e).0
missing n (x ∷ xs) e (suc j) lt = missing n xs (neither (bytes_eq n x) (list_any (bytes_eq n) xs) e).1 j (omega arith)

-- no label has words of which one has no number
differs_at : (ns : List (List ℕ)) (ws : Words) (l : List ℕ) → are_known ns ws ≡ false → AreNamed (length ns) l → same_words ws (named ns l) ≡ false
differs_at ns [] l e h = absurd (true≢false e)
differs_at ns (w ∷ ws) [] e h = refl
differs_at ns (w ∷ ws) (i ∷ is) e h = by (list_any (bytes_eq w) ns) refl e (λ rest. differs_at ns ws is rest h.1)
  where
    by : (b : Bool) → list_any (bytes_eq w) ns ≡ b → (b && are_known ns ws) ≡ false → (are_known ns ws ≡ false → same_words ws (named ns is) ≡ false) → (bytes_eq w (get_or ns i []) && same_words ws (named ns is)) ≡ false
    by true known rest more = ap (λ t. bytes_eq w (get_or ns i []) && t) (more rest) ∙ and-false (bytes_eq w (get_or ns i []))
    by false unknown rest more = ap (λ t. t && same_words ws (named ns is)) (missing w ns unknown i h.0)

pub no_position : (ns : List (List ℕ)) (ws : Words) (ls : List (List ℕ)) (k : ℕ) → are_known ns ws ≡ false → AllByRecursion (AreNamed (length ns)) ls → position_from (same_words ws) k (map (named ns) ls) ≡ None
no_position ns ws [] k e h = refl
no_position ns ws (l ∷ ls) k e h =
    ap (λ t. cond t (Some k) (position_from (same_words ws) (k + 1) (map (named ns) ls))) (differs_at ns ws l e h.0)
    ∙ no_position ns ws ls (k + 1) e h.1
