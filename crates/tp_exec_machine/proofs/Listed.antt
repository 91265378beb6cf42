-- Lists in which places stand once.
use Rattle.std.proofs.Common.{◌≡◌, ◌≢◌, ℕ, zero, suc, ◌+◌, ◌<◌, ◌≤◌, ◌⊎◌, inl, inr, Bool, true, false, cond, nat_eq, nat_lt, List, [], ◌∷◌, ◌++◌, length, get_or, set, replicate, refl, sym, ap, subst, ◌∙◌, arith}
use Rattle.std.specs.List.{count_by}
use Rattle.std.proofs.lemmas.Bool.Decides.{nat_tests}
use Rattle.std.proofs.lemmas.Bool.{cases_eq, cases_lt}
use Rattle.std.proofs.lemmas.Grind.{common_steps, get_or-set_at}
use Rattle.std.proofs.lemmas.List.{get_or-set_other}
use Rattle.std.proofs.lemmas.List.Sums.{sum_by_push, sum_by-cons}
use Rattle.tp_exec_machine.specs.Orders.{AreAllPlaces, AreListed}

alike : (a b : ℕ) → a ≡ b → nat_eq a b ≡ true
alike a b e = grind (arith, nat_tests)

unlike : (a b : ℕ) → a ≢ b → nat_eq a b ≡ false
unlike a b ne = grind (arith, nat_tests, ne)

below : (a b : ℕ) → a < b → nat_lt a b ≡ true
below a b lt = grind (arith, nat_tests)

not_below : (a b : ℕ) → b ≤ a → nat_lt a b ≡ false
not_below a b le = grind (arith, nat_tests)

picked : (b : Bool) → b ≡ true → ◌≡◌ {A = ℕ} (cond b 1 0) 1
picked true e = refl
picked false e = absurd (let no : ⊥ = cc in no)

left : (b : Bool) → b ≡ false → ◌≡◌ {A = ℕ} (cond b 1 0) 0
left false e = refl
left true e = absurd (let no : ⊥ = cc in no)

-- nothing is marked
unmarked : (n p : ℕ) → get_or (replicate {A = Bool} n false) p false ≡ false
unmarked n p = grind (arith, common_steps)

pub none_listed : (n : ℕ) → AreListed (replicate {A = Bool} n false) []
none_listed n p = sym (left (get_or (replicate {A = Bool} n false) p false) (unmarked n p))

-- one more
pub listed_more : (there : List Bool) (order : List ℕ) (place : ℕ) → AreListed there order → place < length there → get_or there place false ≡ false → AreListed (set there place true) (order ++ place ∷ [])
listed_more there order place h lt free p =
    let more = sum_by_push (λ q. cond (nat_eq p q) 1 0) order place in
    let had = h p in
    elim (cases_eq p place) [
      | inl same ↦
          (let none : cond (get_or there p false) 1 0 ≡ 0 = left (get_or there p false) (ap (λ q. get_or there q false) same ∙ free) in
          let one : cond (nat_eq p place) 1 0 ≡ 1 = picked (nat_eq p place) (alike p place same) in
          let marked : cond (get_or (set there place true) p false) 1 0 ≡ 1 = picked (get_or (set there place true) p false) (get_or-set_at there place p true false same lt) in
          omega (arith, more, had, none, one, marked))
      | inr ne ↦
          (let one : cond (nat_eq p place) 1 0 ≡ 0 = left (nat_eq p place) (unlike p place ne) in
          let same : ◌≡◌ {A = ℕ} (cond (get_or (set there place true) p false) 1 0) (cond (get_or there p false) 1 0) = ap (λ b. cond b 1 0) (get_or-set_other there place p true false ne) in
          omega (arith, more, had, one, same))
    ]

pub marked_here : (there : List Bool) (place : ℕ) → place < length there → get_or (set there place true) place false ≡ true
marked_here there place lt = get_or-set_at there place place true false refl lt

pub marked_still : (there : List Bool) (place p : ℕ) → place < length there → get_or there p false ≡ true → get_or (set there place true) p false ≡ true
marked_still there place p lt h =
    elim (cases_eq p place) [
      | inl same ↦ get_or-set_at there place p true false same lt
      | inr ne ↦ get_or-set_other there place p true false ne ∙ h
    ]

-- behind the marks there is none
past : (there : List Bool) (p : ℕ) → length there ≤ p → get_or there p false ≡ false
past there p le = grind (arith, common_steps)

-- where each place below a count is marked, all of them stand there
pub all_listed : (there : List Bool) (order : List ℕ) (count : ℕ) → length there ≡ count → ((p : ℕ) → p < count → get_or there p false ≡ true) → AreListed there order → AreAllPlaces count order
all_listed there order count len all h p =
    elim (cases_lt p count) [
      | inl lt ↦ h p ∙ ap (λ b. cond b 1 0) (all p lt ∙ sym (below p count lt))
      | inr le ↦ h p ∙ ap (λ b. cond b 1 0) (past there p (omega (arith, len, le)) ∙ sym (not_below p count le))
    ]

-- ---- what stands in a list

there_or : (q x : ℕ) (xs : List ℕ) → ((q ≡ x) × (count_by (nat_eq q) (x ∷ xs) ≡ 1 + count_by (nat_eq q) xs)) ⊎ ((q ≢ x) × (count_by (nat_eq q) (x ∷ xs) ≡ count_by (nat_eq q) xs))
there_or q x xs =
    let step = sum_by-cons (λ p. cond (nat_eq q p) 1 0) x xs in
    elim (cases_eq q x) [
      | inl same ↦ (let one = picked (nat_eq q x) (alike q x same) in inl (same, omega (arith, step, one)))
      | inr ne ↦ (let none = left (nat_eq q x) (unlike q x ne) in inr (ne, omega (arith, step, none)))
    ]

-- where it stands
pub stands_at : (q : ℕ) (xs : List ℕ) → 0 < count_by (nat_eq q) xs → (k : ℕ) × (k < length xs) × (get_or xs k 0 ≡ q)
stands_at q [] some = absurd (let no : ⊥ = omega (arith, some) in no)
stands_at q (x ∷ xs) some =
    elim (there_or q x xs) [
      | inl here ↦ (0, omega arith, sym here.0)
      | inr there ↦ (let h = stands_at q xs (let e = there.1 in omega (arith, e, some)) in (suc h.0, (let lt = h.1 in omega (arith, lt)), h.2))
    ]

pub stands : (q : ℕ) (xs : List ℕ) (k : ℕ) → k < length xs → get_or xs k 0 ≡ q → 0 < count_by (nat_eq q) xs
stands q [] k lt is = absurd (let no : ⊥ = omega (arith, lt) in no)
stands q (x ∷ xs) zero lt is =
    elim (there_or q x xs) [
      | inl here ↦ (let e = here.1 in omega (arith, e))
      | inr there ↦ absurd (there.0 (sym is))
    ]
stands q (x ∷ xs) (suc k) lt is =
    let h = stands q xs k (omega (arith, lt)) is in
    elim (there_or q x xs) [
      | inl here ↦ (let e = here.1 in omega (arith, e))
      | inr there ↦ (let e = there.1 in omega (arith, h, e))
    ]

-- a place that stands there is below the count, and each that is stands there
pub place_below : (count : ℕ) (order : List ℕ) (k : ℕ) → AreAllPlaces count order → k < length order → get_or order k 0 < count
place_below count order k all lt =
    let q = get_or order k 0 in
    let some = stands q order k lt refl in
    let is = all q in
    elim (cases_lt q count) [
      | inl lt ↦ lt
      | inr le ↦ absurd (let none : cond (nat_lt q count) 1 0 ≡ 0 = left (nat_lt q count) (not_below q count le) in let no : ⊥ = omega (arith, some, is, none) in no)
    ]

pub place_stands : (count : ℕ) (order : List ℕ) (q : ℕ) → AreAllPlaces count order → q < count → (k : ℕ) × (k < length order) × (get_or order k 0 ≡ q)
place_stands count order q all lt =
    let is = all q in
    let one : cond (nat_lt q count) 1 0 ≡ 1 = picked (nat_lt q count) (below q count lt) in
    stands_at q order (omega (arith, is, one))
