-- Truths and values by number are those by words.
use Rattle.std.proofs.Common.{◌≡◌, ℕ, zero, suc, ◌<◌, Bool, true, false, ◌||◌, List, [], ◌∷◌, ◌++◌, map, length, get_or, nat_eq, ◌==◌, if◌then◌else◌, Some, None, refl, sym, ap, ◌∙◌, arith, true≢false}
use Rattle.std.proofs.lemmas.Bool.{eqb-true, eq-eqb, false_from_ne_true}
use Rattle.std.proofs.lemmas.Map.Keys.{IsDistinct-head, IsDistinct-tail, IsDistinct-push}
use Rattle.std.proofs.lemmas.Slice.Eq.{slice_eq-Decides, bytes_eq-Decides}
use Rattle.std.specs.Bool.{Decides}
use Rattle.std.specs.Cmp.{IsEquivalence}
use Rattle.std.specs.Cmp.Lexicographic.{lists_equiv, nat_list_eq_equiv}
use Rattle.std.specs.List.{AllByRecursion, IsDistinct}
use Rattle.tp_task.specs.Words.{Words, same_words, has_words, with_words, with_all}
use Rattle.tp_syntax_ast.specs.Problems as problems
use Rattle.tp_syntax_ast.specs.Problems.{Initial}
use Rattle.tp_ground_bindings.specs.Bindings.{object_for, words_in}
use Rattle.tp_task.specs.Tables.{Tables, words_at}
use Rattle.tp_ground.specs.Initially.{initial_in, is_initially_true, initial_value, or_else, named_initial, true_at, value_at}
use Rattle.tp_ground.specs.declared.beginning.NumberedInitial.{NumberedInitial}
use Rattle.tp_ground.specs.declared.beginning.NumberedInitial.TheVariants as numbered

words_equiv : IsEquivalence same_words
words_equiv = lists_equiv nat_list_eq_equiv

pub same_words-Decides : (v w : Words) → Decides (same_words v w) (v ≡ w)
same_words-Decides v w = slice_eq-Decides bytes_eq-Decides v w (same_words v w) refl

with_words_distinct : (known : List Words) (w : Words) → IsDistinct same_words known → IsDistinct same_words (with_words known w)
with_words_distinct known w d = by (has_words known w) refl
  where
    by : (b : Bool) → has_words known w ≡ b → IsDistinct same_words (if b then known else (known ++ w ∷ []))
    by true e = d
    by false e = IsDistinct-push words_equiv known w d e

-- no words have two numbers
pub with_all_distinct : (known ws : List Words) → IsDistinct same_words known → IsDistinct same_words (with_all known ws)
with_all_distinct known [] d = d
with_all_distinct known (w ∷ ws) d = with_all_distinct (with_words known w) ws (with_words_distinct known w d)

differs : (xs : List Words) (x : Words) → AllByRecursion (λ y. same_words x y ≡ false) xs → (j : ℕ) → j < length xs → x ≡ get_or xs j [] → ⊥
differs [] x h j lt e = omega arith
differs (y ∷ ys) x h zero lt e = true≢false (sym ((same_words-Decides x y).1 e) ∙ h.0)
differs (y ∷ ys) x h (suc j) lt e = differs ys x h.1 j (omega arith) e

pub apart : (ns : List Words) → IsDistinct same_words ns → (i j : ℕ) → i < length ns → j < length ns → get_or ns i [] ≡ get_or ns j [] → i ≡ j
apart [] d i j hi hj e = absurd (omega arith)
apart (x ∷ xs) d zero zero hi hj e = refl
apart (x ∷ xs) d zero (suc j) hi hj e = absurd (differs xs x (IsDistinct-head same_words x xs d) j (omega arith) e)
apart (x ∷ xs) d (suc i) zero hi hj e = absurd (differs xs x (IsDistinct-head same_words x xs d) i (omega arith) (sym e))
apart (x ∷ xs) d (suc i) (suc j) hi hj e = ap suc (apart xs (IsDistinct-tail same_words x xs d) i j (omega arith) (omega arith) e)

-- words at two numbers are the same exactly where the numbers are
pub same_number : (ns : List Words) → IsDistinct same_words ns → (i j : ℕ) → i < length ns → j < length ns → same_words (get_or ns i []) (get_or ns j []) ≡ nat_eq i j
same_number ns d i j hi hj = by (nat_eq i j) refl
  where
    by : (b : Bool) → nat_eq i j ≡ b → same_words (get_or ns i []) (get_or ns j []) ≡ b
    by true e = (same_words-Decides (get_or ns i []) (get_or ns j [])).1 (ap (λ k. get_or ns k []) (eqb-true i j e))
    by false e = false_from_ne_true (same_words (get_or ns i []) (get_or ns j [])) (λ h. true≢false (sym (eq-eqb i j (apart ns d i j hi hj ((same_words-Decides (get_or ns i []) (get_or ns j [])).0 h))) ∙ e))

below : (ns : List Words) (i : ℕ) (w : List ℕ) (ws : Words) → words_at ns i ≡ w ∷ ws → i < length ns
below [] i w ws e = cc
below (n ∷ ns) zero w ws e = omega arith
below (n ∷ ns) (suc i) w ws e = let lt : i < length ns = below ns i w ws e in omega arith

-- words with a number are those at another place exactly where the numbers are the same
number_of : (ns : List Words) → IsDistinct same_words ns → (i j : ℕ) (w : List ℕ) (ws : Words) → i < length ns → words_at ns j ≡ w ∷ ws → (i == j) ≡ same_words (get_or ns i []) (w ∷ ws)
number_of ns d i j w ws lt e = sym (same_number ns d i j lt (below ns j w ws e)) ∙ ap (same_words (get_or ns i [])) e

module _ (t : Tables) (d : IsDistinct same_words t.atoms) (j : ℕ) (lt : j < length t.atoms) where
  pub true_there : (es : List NumberedInitial) (is : List Initial) → map (named_initial t) es ≡ map initial_in is → true_at es j ≡ is_initially_true (map initial_in is) (get_or t.atoms j [])
  true_there [] [] e = refl
  true_there [] (i ∷ is) e = cc
  true_there (x ∷ es) [] e = cc
  true_there (numbered.Holds k ∷ es) (problems.holds f ∷ is) e =
      let here : words_at t.atoms k ≡ f.name ∷ map (object_for []) f.arguments = cc in
      let rest : map (named_initial t) es ≡ map initial_in is = cc in
      ap (λ b. b || true_at es j) (number_of t.atoms d j k f.name (map (object_for []) f.arguments) lt here)
      ∙ ap (λ b. same_words (get_or t.atoms j []) (words_in [] f) || b) (true_there es is rest)
  true_there (numbered.Holds k ∷ es) (problems.fails f ∷ is) e = cc
  true_there (numbered.Holds k ∷ es) (problems.has_value f n ∷ is) e = cc
  true_there (numbered.Fails k ∷ es) (problems.holds f ∷ is) e = cc
  true_there (numbered.Fails k ∷ es) (problems.fails f ∷ is) e = let rest : map (named_initial t) es ≡ map initial_in is = cc in true_there es is rest
  true_there (numbered.Fails k ∷ es) (problems.has_value f n ∷ is) e = cc
  true_there (numbered.HasValue k v ∷ es) (problems.holds f ∷ is) e = cc
  true_there (numbered.HasValue k v ∷ es) (problems.fails f ∷ is) e = cc
  true_there (numbered.HasValue k v ∷ es) (problems.has_value f n ∷ is) e = let rest : map (named_initial t) es ≡ map initial_in is = cc in true_there es is rest

module _ (t : Tables) (d : IsDistinct same_words t.fluents) (j : ℕ) (lt : j < length t.fluents) where
  pub value_there : (es : List NumberedInitial) (is : List Initial) → map (named_initial t) es ≡ map initial_in is → value_at es j ≡ initial_value (map initial_in is) (get_or t.fluents j [])
  value_there [] [] e = refl
  value_there [] (i ∷ is) e = cc
  value_there (x ∷ es) [] e = cc
  value_there (numbered.HasValue k v ∷ es) (problems.has_value f n ∷ is) e =
      let here : words_at t.fluents k ≡ f.name ∷ map (object_for []) f.arguments = cc in
      let same : v ≡ n = cc in
      let rest : map (named_initial t) es ≡ map initial_in is = cc in
      ap (λ b. or_else (value_at es j) (if b then Some v else None)) (number_of t.fluents d j k f.name (map (object_for []) f.arguments) lt here)
      ∙ ap (λ x. or_else (value_at es j) (if same_words (get_or t.fluents j []) (words_in [] f) then Some x else None)) same
      ∙ ap (λ o. or_else o (if same_words (get_or t.fluents j []) (words_in [] f) then Some n else None)) (value_there es is rest)
  value_there (numbered.HasValue k v ∷ es) (problems.holds f ∷ is) e = cc
  value_there (numbered.HasValue k v ∷ es) (problems.fails f ∷ is) e = cc
  value_there (numbered.Holds k ∷ es) (problems.holds f ∷ is) e = let rest : map (named_initial t) es ≡ map initial_in is = cc in value_there es is rest
  value_there (numbered.Holds k ∷ es) (problems.fails f ∷ is) e = cc
  value_there (numbered.Holds k ∷ es) (problems.has_value f n ∷ is) e = cc
  value_there (numbered.Fails k ∷ es) (problems.holds f ∷ is) e = cc
  value_there (numbered.Fails k ∷ es) (problems.fails f ∷ is) e = let rest : map (named_initial t) es ≡ map initial_in is = cc in value_there es is rest
  value_there (numbered.Fails k ∷ es) (problems.has_value f n ∷ is) e = cc

-- two lists that read the same
pub same_reads : {A : Type 0} (z : A) (xs ys : List A) → length xs ≡ length ys → ((j : ℕ) → j < length ys → get_or xs j z ≡ get_or ys j z) → xs ≡ ys
same_reads z [] [] e h = refl
same_reads z [] (y ∷ ys) e h = absurd (omega arith)
same_reads z (x ∷ xs) [] e h = absurd (omega arith)
same_reads z (x ∷ xs) (y ∷ ys) e h =
    ap (λ w. w ∷ xs) (h 0 (omega arith)) ∙ ap (λ ws. y ∷ ws) (same_reads z xs ys (omega arith) (λ j lt. h (suc j) (omega arith)))
