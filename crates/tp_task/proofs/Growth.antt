-- Words that are mentioned come after those that are known.
use Rattle.std.proofs.Common.{◌≡◌, ℕ, ◌≤◌, Bool, true, false, List, [], ◌∷◌, ◌++◌, length, if◌then◌else◌, refl, sym, ap, ◌∙◌, arith, append_assoc, append-nil, length-append}
use Rattle.tp_task.specs.Words.{Words, has_words, with_words, with_all}
use Rattle.tp_task.specs.Labels.{Grows}

pub grows_by_none : (known : List Words) → Grows known known
grows_by_none known = ([], sym (append-nil known))

pub grows_on : (a b c : List Words) → Grows a b → Grows b c → Grows a c
grows_on a b c f g = (f.0 ++ g.0, g.1 ∙ ap (λ xs. xs ++ g.0) f.1 ∙ append_assoc a f.0 g.0)

pub with_words_grows : (known : List Words) (w : Words) → Grows known (with_words known w)
with_words_grows known w = by (has_words known w)
  where
    by : (b : Bool) → Grows known (if b then known else (known ++ w ∷ []))
    by true = grows_by_none known
    by false = (w ∷ [], refl)

pub with_all_grows : (known ws : List Words) → Grows known (with_all known ws)
with_all_grows known [] = grows_by_none known
with_all_grows known (w ∷ ws) = grows_on known (with_words known w) (with_all (with_words known w) ws) (with_words_grows known w) (with_all_grows (with_words known w) ws)

pub with_all-append : (known xs ys : List Words) → with_all known (xs ++ ys) ≡ with_all (with_all known xs) ys
with_all-append known [] ys = refl
with_all-append known (x ∷ xs) ys = with_all-append (with_words known x) xs ys

pub longer : (a b : List Words) → Grows a b → length a ≤ length b
longer a b g = let e : length b ≡ length (a ++ g.0) = ap length g.1 in omega (arith, length-append a g.0)

pub with_all-longer : (known ws : List Words) → length known ≤ length (with_all known ws)
with_all-longer known ws = longer known (with_all known ws) (with_all_grows known ws)

-- the words before are no more than those with more
pub with_all-longer_append : (known xs ys : List Words) → length (with_all known xs) ≤ length (with_all known (xs ++ ys))
with_all-longer_append known xs ys =
    let e : length (with_all known (xs ++ ys)) ≡ length (with_all (with_all known xs) ys) = ap length (with_all-append known xs ys) in
    omega (arith, with_all-longer (with_all known xs) ys)

pub names_grow_on : (a b c : List (List ℕ)) → Grows a b → Grows b c → Grows a c
names_grow_on a b c f g = (f.0 ++ g.0, g.1 ∙ ap (λ xs. xs ++ g.0) f.1 ∙ append_assoc a f.0 g.0)
