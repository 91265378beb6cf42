-- What ':init' mentions stands in the tables of a task.
use Rattle.std.proofs.Common.{◌≡◌, Bool, true, false, List, [], ◌∷◌, ◌++◌, if◌then◌else◌, ◌⊎◌, inl, inr, ⊎_elim, refl, sym, subst}
use Rattle.std.proofs.lemmas.Bool.{or_cases, or_left, or_right}
use Rattle.tp_task.specs.Words.{Words, same_words, has_words, with_words, with_all, firsts}
use Rattle.tp_task.proofs.OnWords.{same_words_are}
use Rattle.tp_ground.specs.Initially.{GroundInitial, holds, fails, has_value, of_initial, is_initially_true}
use Rattle.tp_ground.specs.Mentions.{of_each}

has_front : (xs ys : List Words) (w : Words) → has_words xs w ≡ true → has_words (xs ++ ys) w ≡ true
has_front [] ys w h = absurd (cc)
has_front (x ∷ xs) ys w h = ⊎_elim (λ e. or_left (same_words w x) _ e) (λ e. or_right (same_words w x) _ (has_front xs ys w e)) (or_cases (same_words w x) (has_words xs w) h)

has_last : (xs : List Words) (x w : Words) → same_words w x ≡ true → has_words (xs ++ x ∷ []) w ≡ true
has_last [] x w h = or_left (same_words w x) false h
has_last (y ∷ xs) x w h = or_right (same_words w y) _ (has_last xs x w h)

-- what is mentioned stands in the table
module _ (w : Words) where
  with_known : (known : List Words) (v : Words) → has_words known w ≡ true → has_words (with_words known v) w ≡ true
  with_known known v h = by (has_words known v)
    where
      by : (b : Bool) → has_words (if b then known else (known ++ v ∷ [])) w ≡ true
      by true = h
      by false = has_front known (v ∷ []) w h

  with_new : (known : List Words) (v : Words) → same_words w v ≡ true → has_words (with_words known v) w ≡ true
  with_new known v h = by (has_words known v) refl
    where
      by : (b : Bool) → has_words known v ≡ b → has_words (if b then known else (known ++ v ∷ [])) w ≡ true
      by true e = subst (λ z. has_words known z ≡ true) (sym (same_words_are w v h)) e
      by false e = has_last known v w h

  all_known : (known ws : List Words) → (has_words known w ≡ true) ⊎ (has_words ws w ≡ true) → has_words (with_all known ws) w ≡ true
  all_known known [] (inl h) = h
  all_known known [] (inr h) = absurd (cc)
  all_known known (v ∷ ws) (inl h) = all_known (with_words known v) ws (inl (with_known known v h))
  all_known known (v ∷ ws) (inr h) =
      ⊎_elim (λ e. all_known (with_words known v) ws (inl (with_new known v e))) (λ e. all_known (with_words known v) ws (inr e))
      (or_cases (same_words w v) (has_words ws w) h)

  initially_mentioned : (is : List GroundInitial) → is_initially_true is w ≡ true → has_words (of_each of_initial is).atoms w ≡ true
  initially_mentioned [] h = absurd (cc)
  initially_mentioned (holds v ∷ is) h = ⊎_elim (λ e. or_left (same_words w v) _ e) (λ e. or_right (same_words w v) _ (initially_mentioned is e)) (or_cases (same_words w v) (is_initially_true is w) h)
  initially_mentioned (fails v ∷ is) h = or_right (same_words w v) _ (initially_mentioned is h)
  initially_mentioned (has_value v n ∷ is) h = initially_mentioned is h

  -- of a table of what ':init', the goal and actions mention
  pub in_table : (table : List Words) (is : List GroundInitial) (goal rest : List Words) → table ≡ firsts (((of_each of_initial is).atoms ++ goal) ++ rest) → is_initially_true is w ≡ true → has_words table w ≡ true
  in_table table is goal rest e h = subst (λ ws. has_words ws w ≡ true) (sym e) (all_known [] (((of_each of_initial is).atoms ++ goal) ++ rest) (inr (has_front ((of_each of_initial is).atoms ++ goal) rest w (has_front (of_each of_initial is).atoms goal w (initially_mentioned is h)))))
