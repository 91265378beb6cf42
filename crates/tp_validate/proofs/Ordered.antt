-- A list that is sorted by moment, and gone through tick after tick.
use Rattle.std.proofs.Common.{◌≡◌, ℕ, ◌+◌, ◌-◌, ◌≤◌, ◌<◌, ◌==◌, Bool, true, false, not, ◌&&◌, leb, leb-true, List, [], ◌∷◌, ◌++◌, length, get_or, take, drop, length-append, length-drop, length-take, ⊎_elim, refl, sym, ap, ◌∙◌, subst, arith, eq-eqb, All, Some, max}
use Rattle.std.specs.List.{filter, slice_get}
use Rattle.std.specs.List.Sorted.{IsNonDecreasingBy, IsPermutation, IsPartitionPoint, IsSortedByKey, IsStableByKey, ties}
use Rattle.std.specs.Ordering.{nat_cmp, is_lt}
use Rattle.std.proofs.lemmas.Bool.{cases_lt, cond-true, cond-false, ne_eqb, leb-false, cases_Bool, true≢false}
use Rattle.std.proofs.lemmas.Bool.Decides.{nat_tests}
use Rattle.std.proofs.lemmas.List.{get_or_default, take-append-drop, append-nil, get_or-take, get_or-drop, drop-drop}
use Rattle.std.proofs.lemmas.List.Elements.{All-nil, All-cons, All-append, All-filter, All-head, All-tail, All-weaker, filter-append, filter_agree}
use Rattle.std.proofs.Math.Seq.{drop-append_seam, take-length}
use Rattle.std.proofs.lemmas.List.Sorted.{IsNonDecreasingBy-from_sort, IsNonDecreasingBy-drop, length_permutation}
use Rattle.tp_task.specs.Valid.{Placed}
use Rattle.tp_task.specs.Verdict.{last_moment}
use Rattle.tp_validate.specs.Places.{here}
use Rattle.tp_validate.specs.Reached.{IsCovered}
use Rattle.tp_validate.specs.Agenda.{IsLeft, IsAgenda, IsNextTick}

-- two numbers tie just where they are equal
tie : (a b : ℕ) → (not (is_lt (nat_cmp a b)) && not (is_lt (nat_cmp b a))) ≡ (b == a)
tie a b = grind (arith, nat_tests)

module _ {X : Type 0} (p : X → Bool) where
  pub filter_all : (xs : List X) → All (λ x. p x ≡ true) xs → filter p xs ≡ xs
  filter_all [] h = refl
  filter_all (x ∷ xs) h = cond-true (p x) _ _ (All-head (λ y. p y ≡ true) x xs h) ∙ ap (λ ys. x ∷ ys) (filter_all xs (All-tail (λ y. p y ≡ true) x xs h))

  pub filter_none : (xs : List X) → All (λ x. p x ≡ false) xs → filter p xs ≡ []
  filter_none [] h = refl
  filter_none (x ∷ xs) h = cond-false (p x) _ _ (All-head (λ y. p y ≡ false) x xs h) ∙ filter_none xs (All-tail (λ y. p y ≡ false) x xs h)

  pub filtered : (P : X → Type 0) (xs : List X) → All P (filter p xs) → All (λ x. p x ≡ true → P x) xs
  filtered P [] h = All-nil (λ x. p x ≡ true → P x)
  filtered P (x ∷ xs) h =
      ⊎_elim
      (λ e. let g = subst (λ ys. All P ys) (cond-true (p x) (x ∷ filter p xs) (filter p xs) e) h in All-cons (λ y. p y ≡ true → P y) x xs (λ _. All-head P x (filter p xs) g) (filtered P xs (All-tail P x (filter p xs) g)))
      (λ e. let g = subst (λ ys. All P ys) (cond-false (p x) (x ∷ filter p xs) (filter p xs) e) h in All-cons (λ y. p y ≡ true → P y) x xs (λ q. absurd (true≢false (sym q ∙ e))) (filtered P xs g))
      (cases_Bool (p x))

module _ {X : Type 0} (n : X → ℕ) where
  abbrev lt : X → X → Bool
  lt x y = is_lt (nat_cmp (n x) (n y))

  stays : (with : X → ℕ → X) → ((x : X) (m : ℕ) → n (with x m) ≡ m) → (xs ys : List X) → length ys ≡ length xs → IsStableByKey n nat_cmp xs ys → (m : ℕ) → filter (λ x. n x == m) ys ≡ filter (λ x. n x == m) xs
  stays with is [] [] l h m = refl
  stays with is (x ∷ xs) [] l h m = absurd (omega arith)
  stays with is xs (y ∷ ys) l h m =
      let agree : (z : X) → (n z == m) ≡ ties lt (with y m) z = λ z. ap (λ k. n z == k) (sym (is y m)) ∙ sym (tie (n (with y m)) (n z)) in
      filter_agree (λ z. n z == m) (ties lt (with y m)) agree (y ∷ ys) ∙ (h (with y m) ∙ sym (filter_agree (λ z. n z == m) (ties lt (with y m)) agree xs))

  -- what a stable sort makes
  pub sorted_left : (with : X → ℕ → X) → ((x : X) (m : ℕ) → n (with x m) ≡ m) → (xs ys : List X) → IsPermutation xs ys → IsSortedByKey n nat_cmp ys → IsStableByKey n nat_cmp xs ys → IsLeft n xs 0 ys
  sorted_left with is xs ys p s h =
      record {
        in_order = IsNonDecreasingBy-from_sort n ys s;
        later = λ k d l. omega arith;
        same = λ m _. stays with is xs ys (length_permutation xs ys p) h m;
      }

  -- what `partition_point` finds
  pub until : (xs : List X) (i m : ℕ) → IsPartitionPoint (λ y. leb (n y) m ≡ true) (λ y. leb (n y) m ≡ false) xs i → All (λ x. n x ≤ m) (take i xs)
  until xs i m h = λ k d l. let b = length-take i xs in subst (λ x. n x ≤ m) (sym (get_or-take i xs k d (omega arith))) (leb-true _ m (h.0 k d (omega arith) (omega arith)))

  pub after : (xs : List X) (i m : ℕ) → IsPartitionPoint (λ y. leb (n y) m ≡ true) (λ y. leb (n y) m ≡ false) xs i → All (λ x. m < n x) (drop i xs)
  after xs i m h = λ k d l. let b = length-drop i xs in subst (λ x. m < n x) (sym (get_or-drop i xs k d)) (leb-false _ m (h.1 (i + k) d (omega arith) (omega arith)))

  -- what is true of all that is left is true of all from that moment on
  pub left_all : (xs left : List X) (from : ℕ) → IsLeft n xs from left → (P : X → Type 0) → All P left → All (λ x. from ≤ n x → P x) xs
  left_all xs left from h P a = λ k d l b.
      let m : ℕ = n (get_or xs k d) in
      filtered (λ x. n x == m) P xs (subst (λ ys. All P ys) (h.same m b) (All-filter (λ x. n x == m) P left a)) k d l (eq-eqb m m refl)

  module _ (xs left a b : List X) (from m : ℕ) (h : IsLeft n xs from left) (parts : left ≡ a ++ b) (low : All (λ x. n x ≤ m) a) (high : All (λ x. m < n x) b) where
    halves : (k : ℕ) → filter (λ x. n x == k) left ≡ filter (λ x. n x == k) a ++ filter (λ x. n x == k) b
    halves k = ap (filter (λ x. n x == k)) parts ∙ filter-append (λ x. n x == k) a b

    -- those at the moment stand before the cut
    pub cut : from ≤ m → filter (λ x. n x == m) a ≡ filter (λ x. n x == m) xs
    cut l =
        let none : filter (λ x. n x == m) b ≡ [] = filter_none (λ x. n x == m) b (All-weaker (λ x. m < n x) (λ x. (n x == m) ≡ false) (λ x q. ne_eqb (n x) m (λ e. omega arith)) b high) in
        sym (append-nil (filter (λ x. n x == m) a)) ∙ (ap (λ ys. filter (λ x. n x == m) a ++ ys) (sym none) ∙ (sym (halves m) ∙ h.same m l))

    -- and those after it behind the cut
    pub rest : from ≤ m → IsLeft n xs (m + 1) b
    rest l =
        record {
          in_order = subst (λ ys. IsNonDecreasingBy n ys) (ap (drop (length a)) parts ∙ drop-append_seam a b) (IsNonDecreasingBy-drop n (length a) left h.in_order);
          later = All-weaker (λ x. m < n x) (λ x. m + 1 ≤ n x) (λ x q. omega arith) b high;
          same = λ k q.
              let none : filter (λ x. n x == k) a ≡ [] = filter_none (λ x. n x == k) a (All-weaker (λ x. n x ≤ m) (λ x. (n x == k) ≡ false) (λ x w. ne_eqb (n x) k (λ z. omega arith)) a low) in
              ap (λ ys. ys ++ filter (λ x. n x == k) b) (sym none) ∙ (sym (halves k) ∙ h.same k (omega arith));
        }

module _ (agenda : List Placed) (e : Placed) (m c : ℕ) (sorted : IsNonDecreasingBy (λ (x : Placed). x.moment) agenda) where
  heads : (es : List Placed) → Some e ≡ slice_get es 0 → (0 < length es) × (get_or es 0 e ≡ e)
  heads [] q = absurd (cc)
  heads (x ∷ xs) q = (omega arith, cc)

  module _ (first : Some e ≡ slice_get agenda 0) (at : m ≡ e.moment) (low : All (λ (x : Placed). x.moment ≤ m) (take c agenda)) (high : All (λ (x : Placed). m < x.moment) (drop c agenda)) where
    head_at : (get_or agenda 0 e).moment ≡ m
    head_at = ap (λ (x : Placed). x.moment) (heads agenda first).1 ∙ sym at

    no_lower : (k : ℕ) → k < length (take c agenda) → m ≤ (get_or (take c agenda) k e).moment
    no_lower k l =
        let b = length-take c agenda in
        let s = sorted 0 k e (omega arith) (omega arith) in
        subst (λ (x : Placed). m ≤ x.moment) (sym (get_or-take c agenda k e (omega arith))) (omega (arith, s, head_at))

    all_at : All (λ (x : Placed). x.moment ≡ m) (take c agenda)
    all_at = λ k d l.
        subst (λ (x : Placed). x.moment ≡ m) (get_or_default (take c agenda) k e d l) (let a = low k e l in let b = no_lower k l in omega (arith, a, b))

    not_empty : 0 < length (take c agenda)
    not_empty =
        ⊎_elim
        (λ a. let b = length-take c agenda in let q = (heads agenda first).0 in omega arith)
        (λ a. let z : c ≡ 0 = omega arith in let h = subst (λ n. All (λ (x : Placed). m < x.moment) (drop n agenda)) z high in absurd (let w = h 0 e (heads agenda first).0 in omega (arith, w, head_at)))
        (cases_lt 0 c)

    pub next_is : (there : List Placed) → there ≡ take c agenda → length there ≡ c → IsNextTick agenda m there
    next_is there t n =
        record {
          front = t ∙ ap (λ k. take k agenda) (sym n);
          first = subst (λ xs. All (λ (x : Placed). x.moment ≡ m) xs) (sym t) all_at;
          after = subst (λ k. All (λ (x : Placed). m < x.moment) (drop k agenda)) (sym n) high;
          some = subst (λ xs. 0 < length xs) (sym t) not_empty;
        }

pub All-front : {X : Type 0} (P : X → Type 0) (xs ys : List X) → All P (xs ++ ys) → All P xs
All-front P [] ys h = All-nil P
All-front P (x ∷ xs) ys h = All-cons P x xs (All-head P x (xs ++ ys) h) (All-front P xs ys (All-tail P x (xs ++ ys) h))

pub at_most : (es : List Placed) → All (λ (e : Placed). e.moment ≤ last_moment es) es
at_most [] = All-nil (λ (e : Placed). e.moment ≤ 0)
at_most (e ∷ es) = All-cons (λ (x : Placed). x.moment ≤ max e.moment (last_moment es)) e es (omega arith) (All-weaker (λ (x : Placed). x.moment ≤ last_moment es) (λ (x : Placed). x.moment ≤ max e.moment (last_moment es)) (λ x q. omega arith) es (at_most es))

-- a list with an element, all of which are at a moment that P bounds
some_at : (es : List Placed) (m : ℕ) (P : ℕ → Type 0) → 0 < length es → All (λ (e : Placed). e.moment ≡ m) es → All (λ (e : Placed). P e.moment) es → P m
some_at [] m P l a h = absurd (omega arith)
some_at (e ∷ es) m P l a h = subst P (All-head (λ (x : Placed). x.moment ≡ m) e es a) (All-head (λ (x : Placed). P x.moment) e es h)

-- What a tick of an agenda is to its events.
pub record IsTurn (es : List Placed) (from m : ℕ) (agenda there : List Placed) : Type 0 where
  pub onward : from ≤ m
  pub covered : All (IsCovered from (Some m)) es
  pub last : m ≤ last_moment es
  pub found : there ≡ here m es
  pub rest : IsAgenda es (m + 1) (drop (length there) agenda)
  pub within : length there ≤ length agenda

module _ (es : List Placed) (from : ℕ) (agenda : List Placed) (h : IsAgenda es from agenda) where
  -- one tick of an agenda
  module _ (m : ℕ) (there : List Placed) (t : IsNextTick agenda m there) where
    abbrev later : List Placed
    later = drop (length there) agenda

    parts : agenda ≡ there ++ later
    parts = sym (take-append-drop (length there) agenda) ∙ ap (λ xs. xs ++ later) (sym t.front)

    low : All (λ (e : Placed). e.moment ≤ m) there
    low = All-weaker (λ (e : Placed). e.moment ≡ m) (λ (e : Placed). e.moment ≤ m) (λ e q. omega arith) there t.first

    high : All (λ (e : Placed). m ≤ e.moment) agenda
    high = subst (λ xs. All (λ (e : Placed). m ≤ e.moment) xs) (sym parts)
        (All-append (λ (e : Placed). m ≤ e.moment) there later
        (All-weaker (λ (e : Placed). e.moment ≡ m) (λ (e : Placed). m ≤ e.moment) (λ e q. omega arith) there t.first)
        (All-weaker (λ (e : Placed). m < e.moment) (λ (e : Placed). m ≤ e.moment) (λ e q. omega arith) later t.after))

    not_past : from ≤ m
    not_past = some_at there m (λ k. from ≤ k) t.some t.first (All-front (λ (e : Placed). from ≤ e.moment) there later (subst (λ xs. All (λ (e : Placed). from ≤ e.moment) xs) parts h.later))

    found : there ≡ here m es
    found =
        sym (filter_all (λ (e : Placed). e.moment == m) there (All-weaker (λ (e : Placed). e.moment ≡ m) (λ (e : Placed). (e.moment == m) ≡ true) (λ e q. eq-eqb e.moment m q) there t.first))
        ∙ cut (λ (e : Placed). e.moment) es agenda there later from m h parts low t.after not_past

    not_after_last : m ≤ last_moment es
    not_after_last =
        some_at there m (λ k. k ≤ last_moment es) t.some t.first
        (subst (λ xs. All (λ (e : Placed). e.moment ≤ last_moment es) xs) (sym found) (All-filter (λ (e : Placed). e.moment == m) (λ (e : Placed). e.moment ≤ last_moment es) es (at_most es)))

    pub turn : IsTurn es from m agenda there
    turn =
        record {
          onward = not_past;
          covered = left_all (λ (e : Placed). e.moment) es agenda from h (λ e. m ≤ e.moment) high;
          last = not_after_last;
          found = found;
          rest = rest (λ (e : Placed). e.moment) es agenda there later from m h parts low t.after not_past;
          within = let q = ap length parts in omega (arith, q, length-append there later);
        }

  -- none is left
  pub all_done : agenda ≡ [] → All (λ (e : Placed). e.moment < from) es
  all_done q = All-weaker (λ (e : Placed). from ≤ e.moment → ⊥) (λ (e : Placed). e.moment < from) (λ e f. ⊎_elim (λ a. a) (λ a. absurd (f a)) (cases_lt e.moment from)) es
      (left_all (λ (e : Placed). e.moment) es agenda from h (λ _. ⊥) (subst (λ xs. All (λ (e : Placed). ⊥) xs) (sym q) (All-nil (λ (e : Placed). ⊥))))

-- the rest of a list as an open range takes it
pub tail_is : {X : Type 0} (n : ℕ) (xs : List X) → take (length xs - n) (drop n xs) ≡ drop n xs
tail_is n xs = ap (λ k. take k (drop n xs)) (sym (length-drop n xs)) ∙ take-length (drop n xs)

-- the same where so many events of an agenda are done
module _ (es : List Placed) (from : ℕ) (agenda : List Placed) (done : ℕ) (h : IsAgenda es from (drop done agenda)) where
  pub turn_after : (m : ℕ) (there : List Placed) → IsNextTick (take (length agenda - done) (drop done agenda)) m there → IsTurn es from m (drop done agenda) there
  turn_after m there t = turn es from (drop done agenda) h m there (subst (λ xs. IsNextTick xs m there) (tail_is done agenda) t)

  pub rest_after : (m : ℕ) (there : List Placed) → IsTurn es from m (drop done agenda) there → IsAgenda es (m + 1) (drop (done + length there) agenda)
  rest_after m there t = subst (λ xs. IsAgenda es (m + 1) xs) (drop-drop (length there) done agenda) t.rest

  pub within_after : (m : ℕ) (there : List Placed) → done ≤ length agenda → IsTurn es from m (drop done agenda) there → done + length there ≤ length agenda
  within_after m there l t = let w = t.within in omega (arith, w, length-drop done agenda)

  pub all_done_after : take (length agenda - done) (drop done agenda) ≡ [] → All (λ (e : Placed). e.moment < from) es
  all_done_after q = all_done es from (drop done agenda) h (sym (tail_is done agenda) ∙ q)
