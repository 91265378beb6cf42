-- Labels tell words apart, and keep theirs as names are added.
use Rattle.std.proofs.Common.{◌≡◌, ℕ, zero, suc, ◌+◌, ◌<◌, ◌≤◌, Bool, true, false, ◌&&◌, ◌||◌, List, [], ◌∷◌, ◌++◌, map, length, take, get_or, nat_eq, slice_get, Some, if◌then◌else◌, refl, sym, ap, subst, ◌∙◌, arith, true≢false, length-append}
use Rattle.std.proofs.lemmas.Option.{slice_get_within, get_or_from_slice_get}
use Rattle.std.proofs.lemmas.Bool.{eqb-true, eq-eqb, false_from_ne_true}
use Rattle.std.proofs.lemmas.List.{map-append, take_more}
use Rattle.std.proofs.lemmas.Map.Keys.{IsDistinct-head, IsDistinct-tail}
use Rattle.std.proofs.lemmas.Slice.Eq.{bytes_eq-Decides}
use Rattle.std.proofs.Math.ListN.{get_or-append}
use Rattle.std.specs.List.{list_any, AllByRecursion, IsDistinct}
use Rattle.std.specs.Str.{bytes_eq}
use Rattle.std.specs.Cmp.Lexicographic.{pointwise}
use Rattle.tp_task.specs.Words.{same_words, has_words, with_words}
use Rattle.tp_task.specs.Labels.{named, with_label, Grows, AreNamed}

pub named_grows : (names more : List (List ℕ)) (label : List ℕ) → AreNamed (length names) label → named (names ++ more) label ≡ named names label
named_grows names more [] h = refl
named_grows names more (i ∷ is) h =
    ap (λ w. w ∷ named (names ++ more) is) (get_or-append names more [] i h.0)
    ∙ ap (λ ws. get_or names i [] ∷ ws) (named_grows names more is h.1)

pub all_named_grow : (names more labels : List (List ℕ)) → AllByRecursion (AreNamed (length names)) labels → map (named (names ++ more)) labels ≡ map (named names) labels
all_named_grow names more [] h = refl
all_named_grow names more (l ∷ ls) h =
    ap (λ w. w ∷ map (named (names ++ more)) ls) (named_grows names more l h.0)
    ∙ ap (λ ws. named names l ∷ ws) (all_named_grow names more ls h.1)

pub still_named : (m n : ℕ) (label : List ℕ) → m ≤ n → AreNamed m label → AreNamed n label
still_named m n [] le h = tt
still_named m n (i ∷ is) le h = (let lt : i < m = h.0 in omega arith, still_named m n is le h.1)

pub all_still_named : (m n : ℕ) (labels : List (List ℕ)) → m ≤ n → AllByRecursion (AreNamed m) labels → AllByRecursion (AreNamed n) labels
all_still_named m n [] le h = tt
all_still_named m n (l ∷ ls) le h = (still_named m n l le h.0, all_still_named m n ls le h.1)

differs : (xs : List (List ℕ)) (x : List ℕ) → AllByRecursion (λ y. bytes_eq x y ≡ false) xs → (j : ℕ) → j < length xs → x ≡ get_or xs j [] → ⊥
differs [] x h j lt e = omega arith
differs (y ∷ ys) x h zero lt e = true≢false (sym ((bytes_eq-Decides x y).1 e) ∙ h.0)
differs (y ∷ ys) x h (suc j) lt e = differs ys x h.1 j (omega arith) e

apart : (ns : List (List ℕ)) → IsDistinct bytes_eq ns → (i j : ℕ) → i < length ns → j < length ns → get_or ns i [] ≡ get_or ns j [] → i ≡ j
apart [] d i j hi hj e = absurd (omega arith)
apart (x ∷ xs) d zero zero hi hj e = refl
apart (x ∷ xs) d zero (suc j) hi hj e = absurd (differs xs x (IsDistinct-head bytes_eq x xs d) j (omega arith) e)
apart (x ∷ xs) d (suc i) zero hi hj e = absurd (differs xs x (IsDistinct-head bytes_eq x xs d) i (omega arith) (sym e))
apart (x ∷ xs) d (suc i) (suc j) hi hj e = ap suc (apart xs (IsDistinct-tail bytes_eq x xs d) i j (omega arith) (omega arith) e)

module _ (ns : List (List ℕ)) (d : IsDistinct bytes_eq ns) where
  -- two names are the same exactly where their numbers are
  same_number : (i j : ℕ) → i < length ns → j < length ns → bytes_eq (get_or ns i []) (get_or ns j []) ≡ nat_eq i j
  same_number i j hi hj = by (nat_eq i j) refl
    where
      by : (b : Bool) → nat_eq i j ≡ b → bytes_eq (get_or ns i []) (get_or ns j []) ≡ b
      by true e = (bytes_eq-Decides (get_or ns i []) (get_or ns j [])).1 (ap (λ k. get_or ns k []) (eqb-true i j e))
      by false e = false_from_ne_true (bytes_eq (get_or ns i []) (get_or ns j [])) (λ h. true≢false (sym (eq-eqb i j (apart ns d i j hi hj ((bytes_eq-Decides (get_or ns i []) (get_or ns j [])).0 h))) ∙ e))

  pub same_label : (a b : List ℕ) → AreNamed (length ns) a → AreNamed (length ns) b → same_words (named ns a) (named ns b) ≡ pointwise nat_eq a b
  same_label [] [] ha hb = refl
  same_label [] (j ∷ js) ha hb = refl
  same_label (i ∷ is) [] ha hb = refl
  same_label (i ∷ is) (j ∷ js) ha hb =
      ap (λ t. t && same_words (named ns is) (named ns js)) (same_number i j ha.0 hb.0)
      ∙ ap (λ t. nat_eq i j && t) (same_label is js ha.1 hb.1)

  pub has_label : (a : List ℕ) (ls : List (List ℕ)) → AreNamed (length ns) a → AllByRecursion (AreNamed (length ns)) ls → has_words (map (named ns) ls) (named ns a) ≡ list_any (pointwise nat_eq a) ls
  has_label a [] ha h = refl
  has_label a (l ∷ ls) ha h =
      ap (λ t. t || has_words (map (named ns) ls) (named ns a)) (same_label a l ha h.0)
      ∙ ap (λ t. pointwise nat_eq a l || t) (has_label a ls ha h.1)

  -- new words get a new label
  pub adds_words : (a : List ℕ) (ls : List (List ℕ)) → AreNamed (length ns) a → AllByRecursion (AreNamed (length ns)) ls → with_words (map (named ns) ls) (named ns a) ≡ map (named ns) (with_label ls a)
  adds_words a ls ha h =
      ap (λ t. if t then map (named ns) ls else (map (named ns) ls ++ named ns a ∷ [])) (has_label a ls ha h) ∙ by (list_any (pointwise nat_eq a) ls)
    where
      by : (b : Bool) → (if b then map (named ns) ls else (map (named ns) ls ++ named ns a ∷ [])) ≡ map (named ns) (if b then ls else (ls ++ a ∷ []))
      by true = refl
      by false = sym (map-append (named ns) ls (a ∷ []))

-- a label among others
pub all_named_label : (n : ℕ) (ls : List (List ℕ)) (a : List ℕ) → AllByRecursion (AreNamed n) ls → AreNamed n a → AllByRecursion (AreNamed n) (ls ++ a ∷ [])
all_named_label n [] a h ha = (ha, tt)
all_named_label n (l ∷ ls) a h ha = (h.0, all_named_label n ls a h.1 ha)

pub with_label_named : (n : ℕ) (ls : List (List ℕ)) (a : List ℕ) → AllByRecursion (AreNamed n) ls → AreNamed n a → AllByRecursion (AreNamed n) (with_label ls a)
with_label_named n ls a h ha = by (list_any (pointwise nat_eq a) ls)
  where
    by : (b : Bool) → AllByRecursion (AreNamed n) (if b then ls else (ls ++ a ∷ []))
    by true = h
    by false = all_named_label n ls a h ha

-- one more number in a label, after names were added
pub numbered_on : (N M : List (List ℕ)) (l new : List ℕ) (words : List (List ℕ)) (i : ℕ) (w : List ℕ) → named N l ≡ words → AreNamed (length N) l → Grows N M → slice_get M i ≡ Some w → new ≡ l ++ i ∷ [] → (named M new ≡ words ++ w ∷ []) × AreNamed (length M) new
numbered_on N M l new words i w is h g at pushed = (
  ap (named M) pushed ∙ map-append (λ k. get_or M k []) l (i ∷ [])
      ∙ ap (λ ws. ws ++ get_or M i [] ∷ []) (ap (λ ns. named ns l) g.1 ∙ named_grows N g.0 l h ∙ is)
      ∙ ap (λ v. words ++ v ∷ []) (get_or_from_slice_get M i w [] at),
  subst (AreNamed (length M)) (sym pushed) (named_and (length M) l i (still_named (length N) (length M) l (let e : length M ≡ length (N ++ g.0) = ap length g.1 in omega (arith, length-append N g.0)) h) (slice_get_within M i w at)),
)
  where
    named_and : (n : ℕ) (l : List ℕ) (i : ℕ) → AreNamed n l → i < n → AreNamed n (l ++ i ∷ [])
    named_and n [] i h lt = (lt, tt)
    named_and n (j ∷ js) i h lt = (h.0, named_and n js i h.1 lt)

pub taken_on : {A : Type 0} (f : A → List ℕ) (xs : List A) (i : ℕ) (d : A) → i < length xs → map f (take i xs) ++ f (get_or xs i d) ∷ [] ≡ map f (take (i + 1) xs)
taken_on f xs i d lt = sym (ap (map f) (take_more xs i d lt) ∙ map-append f (take i xs) (get_or xs i d ∷ []))
