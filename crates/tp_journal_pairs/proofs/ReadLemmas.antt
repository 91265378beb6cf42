-- A reason's words, read one after another.
use Rattle.std.proofs.Common.{◌≡◌, ℕ, ◌+◌, ◌<◌, List, [], ◌∷◌, ◌++◌, length, Option, Some, None, refl, ap, sym, ◌∙◌, append_assoc, length-append, arith}
use Rattle.std.specs.Option.{option_map, option_and_then}
use Rattle.tp_bounds.specs.declared.Edge.{Edge}
use Rattle.tp_script.specs.Words.{words_of, words_from}
use Rattle.tp_journal_pairs.specs.Edges.{edge_of, edges_of}

pub word_before : (word more : List ℕ) → 0 < length word → words_from word more ≡ word ∷ words_of more
word_before [] more some = absurd (let f : ⊥ = omega arith in f)
word_before (b ∷ bs) more some = refl

more_items : (items : List Edge) (e : Edge) (o : Option (List Edge)) → option_map (λ es. items ++ es) (option_map (λ es. e ∷ es) o) ≡ option_map (λ es. (items ++ e ∷ []) ++ es) o
more_items items e None = refl
more_items items e (Some es) = ap Some (sym (append_assoc items (e ∷ []) es))

pub read_more : (text rest word more : List ℕ) (items : List Edge) (e : Edge) → words_of rest ≡ words_from word more → 0 < length word → edge_of word ≡ Some e → edges_of (words_of text) ≡ option_map (λ es. items ++ es) (edges_of (words_of rest)) → edges_of (words_of text) ≡ option_map (λ es. (items ++ e ∷ []) ++ es) (edges_of (words_of more))
read_more text rest word more items e split some is h =
    h ∙ (ap (λ ws. option_map (λ es. items ++ es) (edges_of ws)) (split ∙ word_before word more some)
    ∙ (ap (λ o. option_map (λ es. items ++ es) (option_and_then (λ f. option_map (λ es. f ∷ es) (edges_of (words_of more))) o)) is
    ∙ more_items items e (edges_of (words_of more))))

pub last_apart : (front text : List ℕ) (l : ℕ) → front ++ l ∷ [] ≡ text ++ 10 ∷ [] → (l ≡ 10) × (front ≡ text)
last_apart [] [] l e = (let f : l ≡ 10 = cc in f, refl)
last_apart [] (t ∷ ts) l e = absurd (let n : length {A = ℕ} (l ∷ []) ≡ length (t ∷ (ts ++ 10 ∷ [])) = ap length e in let k : length (ts ++ 10 ∷ []) ≡ length ts + 1 = length-append ts (10 ∷ []) in let f : ⊥ = omega (arith, n, k) in f)
last_apart (x ∷ xs) [] l e = absurd (let n : length (x ∷ (xs ++ l ∷ [])) ≡ length {A = ℕ} (10 ∷ []) = ap length e in let k : length (xs ++ l ∷ []) ≡ length xs + 1 = length-append xs (l ∷ []) in let f : ⊥ = omega (arith, n, k) in f)
last_apart (x ∷ xs) (t ∷ ts) l e =
    let head : x ≡ t = cc in
    let tail : xs ++ l ∷ [] ≡ ts ++ 10 ∷ [] = cc in
    let r = last_apart xs ts l tail in
    let more : xs ≡ ts = r.1 in
    (r.0, let f : x ∷ xs ≡ t ∷ ts = cc in f)
