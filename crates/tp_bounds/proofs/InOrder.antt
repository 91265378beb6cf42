-- Bounds in force by rising identifier.
use Rattle.std.proofs.Common.{◌≡◌, ℕ, suc, zero, ◌<◌, ◌≤◌, true, false, nat_lt, inl, inr, List, [], ◌∷◌, length, map, Some, None, refl, sym, ap, subst, ◌∙◌, arith}
use Rattle.std.specs.Prelude.{count_by}
use Rattle.std.specs.Option.{option_map}
use Rattle.std.specs.List.{slice_get, filter, AllByRecursion}
use Rattle.std.specs.List.Sorted.{IsStrictlySortedBy}
use Rattle.std.specs.declared.cmp.Ordering.TheVariants.{Less}
use Rattle.std.specs.Ordering.{nat_cmp}
use Rattle.std.specs.Cmp.{nat_cmp_total}
use Rattle.std.specs.Map.{keys_of}
use Rattle.std.specs.FinMap.{FinMap, get, len, entries, entries-insert, len-entries, len-empty}
use Rattle.std.specs.FinMap.Entries.{put, by_order}
use Rattle.std.proofs.lemmas.Map.Keys.{sorted_head, sorted_tail, below_from_sorted}
use Rattle.std.proofs.lemmas.Bool.{le-ltb, lt-ltb}
use Rattle.std.proofs.lemmas.List.Sums.{length-filter}
use Rattle.std.proofs.lemmas.Map.Entries.{btree_map_get_place}
use Rattle.std.proofs.lemmas.Option.{slice_get_cases}
use Rattle.std.specs.BTreeMap.{BTreeMap}
use Rattle.std.specs.BTreeMap as tree
use Rattle.tp_bounds.specs.declared.Bound.{Bound}
use Rattle.tp_bounds.specs.Held.{held}
use Rattle.tp_bounds.specs.InOrder.{lower_count}
use Rattle.tp_bounds.proofs.HeldMaps.{get_held}

no_length : {A : Type 0} (xs : List A) → length xs ≡ 0 → xs ≡ []
no_length [] h = refl
no_length (x ∷ xs) h = absurd (let f : ⊥ = omega arith in f)

none_held : entries (held []) ≡ []
none_held = no_length (entries (held [])) (sym (len-entries (held [])) ∙ len-empty nat_cmp Bound)

-- an entry whose key is lower than all goes in front
put_first : (k : ℕ) (b : Bound) (es : List (ℕ × Bound)) → AllByRecursion (λ y. nat_cmp k y ≡ Less) (keys_of es) → put nat_cmp k b es ≡ (k, b) ∷ es
put_first k b [] h = refl
put_first k b (e ∷ es) h = ap (λ r. by_order r ((k, b) ∷ e ∷ es) ((e.0, b) ∷ es) (e ∷ put nat_cmp k b es)) h.0

-- entries by rising keys are those of the finite map that they give
pub entries_held : (es : List (ℕ × Bound)) → IsStrictlySortedBy nat_cmp (keys_of es) → entries (held es) ≡ es
entries_held [] h = none_held
entries_held (e ∷ es) h =
    entries-insert nat_cmp_total (held es) e.0 e.1
    ∙ (ap (put nat_cmp e.0 e.1) (entries_held es (sorted_tail nat_cmp e.0 (keys_of es) h))
    ∙ put_first e.0 e.1 es (sorted_head nat_cmp e.0 (keys_of es) h))

less_lt : (x y : ℕ) → nat_cmp x y ≡ Less → x < y
unfolding IsStrictlySortedBy
less_lt x y h = below_from_sorted (x ∷ y ∷ []) 0 1 0 ((h, tt), (tt, tt)) (omega arith) (omega arith)

-- no key is lower than one that is lower than all
none_lower : (x : ℕ) (xs : List ℕ) → AllByRecursion (λ y. nat_cmp x y ≡ Less) xs → filter (λ y. nat_lt y x) xs ≡ []
none_lower x [] h = refl
none_lower x (y ∷ ys) h =
    let lt : x < y = less_lt x y h.0 in
    let no : nat_lt y x ≡ false = le-ltb y x (omega arith) in
    rw no (none_lower x ys h.1)

above_first : (x : ℕ) (xs : List ℕ) → AllByRecursion (λ y. nat_cmp x y ≡ Less) xs → (k y : ℕ) → slice_get xs k ≡ Some y → x < y
above_first x [] h k y is = absurd (let f : ⊥ = cc in f)
above_first x (z ∷ zs) h zero y is = let same : z ≡ y = cc in subst (λ n. x < n) same (less_lt x z h.0)
above_first x (z ∷ zs) h (suc k) y is = above_first x zs h.1 k y is

-- what is lower than the k-th of rising keys are the k before it
lower_before : (xs : List ℕ) → IsStrictlySortedBy nat_cmp xs → (k x : ℕ) → slice_get xs k ≡ Some x → length (filter (λ y. nat_lt y x) xs) ≡ k
lower_before [] h k x is = absurd (let f : ⊥ = cc in f)
lower_before (y ∷ ys) h zero x is =
    let same : y ≡ x = cc in
    let no : nat_lt y y ≡ false = le-ltb y y (omega arith) in
    subst (λ n. length (filter (λ z. nat_lt z n) (y ∷ ys)) ≡ 0) same
    (rw no (ap length (none_lower y ys (sorted_head nat_cmp y ys h))))
lower_before (y ∷ ys) h (suc k) x is =
    let lt : y < x = above_first y ys (sorted_head nat_cmp y ys h) k x is in
    let yes : nat_lt y x ≡ true = lt-ltb y x lt in
    rw yes (ap suc (lower_before ys (sorted_tail nat_cmp y ys h) k x is))

slice_get-map : {A B : Type 0} (f : A → B) (xs : List A) (k : ℕ) (x : A) → slice_get xs k ≡ Some x → slice_get (map f xs) k ≡ Some (f x)
slice_get-map f [] k x is = absurd (let f : ⊥ = cc in f)
slice_get-map f (y ∷ ys) zero x is = ap (λ o. option_map f o) is
slice_get-map f (y ∷ ys) (suc k) x is = slice_get-map f ys k x is

-- the k-th of the entries of a map
pub nth_is : (bounds : FinMap nat_cmp Bound) (m : BTreeMap ℕ Bound) → tree.IsOrdered nat_cmp m → held m.entries ≡ bounds → (k id : ℕ) (b : Bound) → slice_get m.entries k ≡ Some (id, b) → (get bounds id ≡ Some b) × (lower_count bounds id ≡ k)
nth_is bounds m sorted same k id b is =
    let all : entries bounds ≡ m.entries = sym (ap entries same) ∙ entries_held m.entries sorted in
    let at : slice_get (keys_of m.entries) k ≡ Some id = slice_get-map (λ e. e.0) m.entries k (id, b) is in (
      (sym (ap (λ n. get n id) same) ∙ (get_held m id ∙ btree_map_get_place nat_cmp_total m k id b sorted is)),
      (ap (λ es. count_by (λ other. nat_lt other id) (keys_of es)) all
          ∙ (sym (length-filter (λ other. nat_lt other id) (keys_of m.entries)) ∙ lower_before (keys_of m.entries) sorted k id at)),
    )

pub nth_past : (bounds : FinMap nat_cmp Bound) (m : BTreeMap ℕ Bound) → tree.IsOrdered nat_cmp m → held m.entries ≡ bounds → (k : ℕ) → slice_get m.entries k ≡ None → len bounds ≤ k
nth_past bounds m sorted same k is =
    let all : entries bounds ≡ m.entries = sym (ap entries same) ∙ entries_held m.entries sorted in
    let count : len bounds ≡ length m.entries = len-entries bounds ∙ ap length all in
    let past : length m.entries ≤ k = elim (slice_get_cases m.entries k).1 [
      | inl w ↦ absurd (let f : ⊥ = cc in f)
      | inr w ↦ w.0
    ] in
    omega arith
