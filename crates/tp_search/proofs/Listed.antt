-- Rows: which candidates do not interfere with an action before them.
use Rattle.std.proofs.Common.{◌≡◌, ℕ, suc, zero, ◌+◌, ◌<◌, ◌==◌, ◌&&◌, Bool, true, false, not, cond, List, [], ◌∷◌, ◌++◌, ◌⊎◌, length, take, inl, inr, ⊎_elim, Option, Some, None, slice_get, set, get_or, refl, sym, ap, ap₂, subst, ◌∙◌, arith}
use Rattle.std.specs.List.{Contains}
use Rattle.std.specs.List.Sorted.{IsNonDecreasing, IsPermutation, IsSortedByKey, IsBinarySearchResult}
use Rattle.std.specs.Ordering.{nat_cmp}
use Rattle.std.specs.Result.{is_ok}
use Rattle.std.specs.declared.result.Result.{Result}
use Rattle.std.specs.declared.result.Result.TheVariants.{Ok, Err}
use Rattle.std.proofs.lemmas.Bool.{true≢false, cases_lt, eq-eqb, eqb-true, ne_eqb, lt-ltb}
use Rattle.std.proofs.lemmas.List.{get_or_default}
use Rattle.std.proofs.lemmas.List.Elements.{All-contains, filter_more}
use Rattle.std.proofs.lemmas.List.Folds.{list_any_at, list_any_none}
use Rattle.std.proofs.lemmas.List.Sorted.{searched, list_any-IsPermutation, IsNonDecreasingBy-from_sort}
use Rattle.std.proofs.lemmas.Map.Views.{any-filter_same}
use Rattle.tp_task.specs.declared.task.Task.{Task}
use Rattle.tp_task.specs.Bounds.{In}
use Rattle.tp_task.specs.Event.{has}
use Rattle.tp_search.specs.Possible.{interfere}
use Rattle.tp_search.specs.Rows.{is_free, free_after, IsRow, IsKnown, AreUnknown, AreRows}
use Rattle.tp_search.specs.declared.rows.Row.{Row}
use Rattle.tp_search.proofs.Lists.{append_none}
use Rattle.tp_search.proofs.OnSides.{has_of_in}

pushed : (b : Bool) (xs : List ℕ) (x : ℕ) → cond b (xs ++ x ∷ []) xs ≡ xs ++ cond b (x ∷ []) []
pushed true xs x = refl
pushed false xs x = append_none xs

-- one more candidate, listed if it is free
pub free_more : (t : Task) (among : List ℕ) (action i : ℕ) (found : List ℕ) (wanted : Bool) → i < length among → found ≡ free_after t (take i among) action → wanted ≡ is_free t action (get_or among i 0)
    → cond wanted (found ++ get_or among i 0 ∷ []) found ≡ free_after t (take (i + 1) among) action
free_more t among action i found wanted l h k =
    let x = get_or among i 0 in
    ap (λ b. cond b (found ++ x ∷ []) found) k
    ∙ (pushed (is_free t action x) found x
    ∙ (ap (λ ys. ys ++ cond (is_free t action x) (x ∷ []) []) h ∙ sym (filter_more (is_free t action) among i 0 l)))

-- the free ones, sorted, are a row
pub sorted_row : (t : Task) (among : List ℕ) (action : ℕ) (xs ys : List ℕ) → xs ≡ free_after t among action → IsPermutation xs ys → IsSortedByKey (λ x. x) nat_cmp ys → IsRow t among action ys
sorted_row t among action xs ys h p s = record {
  sorted = IsNonDecreasingBy-from_sort (λ x. x) ys s;
  free = subst (λ zs. IsPermutation zs ys) h p;
}

pub listed : (xs : List ℕ) (x : ℕ) (r : Result ℕ ℕ) → IsBinarySearchResult (λ y. nat_cmp y x) xs r → IsNonDecreasing xs → is_ok r ≡ has xs x
listed xs x (Ok i) h up = let s = searched xs x (Ok i) h (λ a b le lt. up a b 0 le lt) in sym (list_any_at (λ y. y == x) xs i 0 s.0 (eq-eqb (get_or xs i 0) x s.1))
listed xs x (Err i) h up = sym (list_any_none (λ y. y == x) xs (λ k d l. ne_eqb (get_or xs k d) x (other k d l)))
  where
    other : (k d : ℕ) → k < length xs → get_or xs k d ≡ x → ⊥
    other k d l e =
        let s = searched xs x (Err i) h (λ a b le lt. up a b 0 le lt) in
        let at : get_or xs k 0 ≡ x = sym (get_or_default xs k d 0 l) ∙ e in
        ⊎_elim
        (λ m. let below : get_or xs k 0 < x = s.1 k m in absurd (omega arith))
        (λ m. let above : x < get_or xs k 0 = s.2 k m l in absurd (omega arith))
        (cases_lt k i)

abbrev row_of_some : Row → Option Row → Row
row_of_some d None = d
row_of_some d (Some r) = r

same_row : (x y : Row) → Some x ≡ Some y → x ≡ y
same_row x y h = ap (row_of_some x) h

-- a row that stands where another stood, or one that stood there before
get_after : (rows : List Row) (i a : ℕ) (row r : Row) → slice_get (set rows i row) a ≡ Some r → ((a ≡ i) × (row ≡ r)) ⊎ (slice_get rows a ≡ Some r)
get_after [] zero a row r h = inr h
get_after [] (suc i) a row r h = inr h
get_after (x ∷ rows) zero zero row r h = inl (refl, same_row row r h)
get_after (x ∷ rows) zero (suc a) row r h = inr h
get_after (x ∷ rows) (suc i) zero row r h = inr h
get_after (x ∷ rows) (suc i) (suc a) row r h = ⊎_elim (λ p. inl (ap suc p.0, p.1)) (λ k. inr k) (get_after rows i a row r h)

pub rows_with : (t : Task) (among : List ℕ) (rows : List Row) (i : ℕ) (row : Row) → AreRows t among rows → IsRow t among i row.apart.items → AreRows t among (set rows i row)
rows_with t among rows i row h k a r e known =
    ⊎_elim
    (λ p. subst (λ (x : Row). IsRow t among a x.apart.items) p.1 (subst (λ n. IsRow t among n row.apart.items) (sym p.0) k))
    (λ q. h a r q known)
    (get_after rows i a row r e)

get_set : (rows : List Row) (i : ℕ) (row r : Row) → slice_get (set rows i row) i ≡ Some r → row ≡ r
get_set [] zero row r h = absurd (cc)
get_set [] (suc i) row r h = absurd (cc)
get_set (x ∷ rows) zero row r h = same_row row r h
get_set (x ∷ rows) (suc i) row r h = get_set rows i row r h

pub set_known : (rows : List Row) (i : ℕ) (row : Row) → row.known ≡ true → IsKnown (set rows i row) i
set_known rows i row h r e = subst (λ (x : Row). x.known ≡ true) (get_set rows i row r e) h

pub still_known : (rows : List Row) (i a : ℕ) (row : Row) → row.known ≡ true → IsKnown rows a → IsKnown (set rows i row) a
still_known rows i a row h k r e = ⊎_elim (λ p. subst (λ (x : Row). x.known ≡ true) p.1 h) (λ q. k r q) (get_after rows i a row r e)

got_contained : (rows : List Row) (a : ℕ) (r : Row) → slice_get rows a ≡ Some r → Contains rows r
got_contained [] a r h = absurd (cc)
got_contained (x ∷ rows) zero r h = (0, omega arith, same_row x r h)
got_contained (x ∷ rows) (suc a) r h = let c = got_contained rows a r h in (suc c.0, omega (arith, c.1), c.2)

pub rows_unknown : (t : Task) (among : List ℕ) (rows : List Row) → AreUnknown rows → AreRows t among rows
rows_unknown t among rows h a r e known = absurd (true≢false (sym known ∙ All-contains (λ (x : Row). x.known ≡ false) rows r h (got_contained rows a r e)))

not_not : (b : Bool) → not (not b) ≡ b
not_not true = refl
not_not false = refl

-- a candidate after an action is among the free ones if it does not interfere
has_free : (t : Task) (among : List ℕ) (a b : ℕ) → In b among → a < b → has (free_after t among a) b ≡ not (interfere t a b)
has_free t among a b i l =
    any-filter_same (λ y. y == b) (is_free t a) (is_free t a b) (λ k e. ap (is_free t a) (eqb-true k b e)) among
    ∙ (ap₂ ◌&&◌ (ap (λ c. c && not (interfere t a b)) (lt-ltb a b l)) (has_of_in among b i) ∙ and_true (not (interfere t a b)))
  where
    and_true : (c : Bool) → (c && true) ≡ c
    and_true true = refl
    and_true false = refl

-- a row tells what interferes
pub met_by_row : (t : Task) (among : List ℕ) (rows : List Row) (a b : ℕ) (r : Row) (listed : Bool) → (IsNonDecreasing r.apart.items → listed ≡ has r.apart.items b) → slice_get rows a ≡ Some r → r.known ≡ true → a < b
    → AreRows t among rows → In b among → not listed ≡ interfere t a b
met_by_row t among rows a b r listed looks e known l h i =
    let row = h a r e known in
    ap not (looks row.sorted ∙ (sym (list_any-IsPermutation (λ y. y == b) (free_after t among a) r.apart.items row.free) ∙ has_free t among a b i l))
    ∙ not_not (interfere t a b)
