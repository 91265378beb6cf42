-- Events by their number in the plan, and by their place among those at one moment.
use Rattle.std.proofs.Common.{◌≡◌, ℕ, ◌+◌, ◌-◌, ◌≤◌, ◌<◌, Bool, true, false, cond, ◌&&◌, not, ◌==◌, List, [], ◌∷◌, ◌++◌, length, get_or, map, Option, Some, None, suc, refl, sym, ap, ap₂, ◌∙◌, subst, arith}
use Rattle.std.specs.List.{position_from, AllByRecursion, list_all}
use Rattle.std.proofs.lemmas.Bool.{and_parts, cond-false, not-true}
use Rattle.tp_task.specs.declared.events.Body.{Body}
use Rattle.tp_task.specs.declared.events.Body.TheVariants.{Instant, Durative}
use Rattle.tp_task.specs.Event.{interferes}
use Rattle.tp_task.specs.Happens.{EventOfStep, apart}
use Rattle.tp_task.specs.Valid.{Planned, Placed, events_of, events_from, count_of}
use Rattle.tp_task.specs.Verdict.{pair_or, first_pair}
use Rattle.tp_happen.specs.Fault as happening
use Rattle.tp_validate.specs.Places.{here, numbers}

-- the events are numbered from k on
abbrev pub IsNumbered : ℕ → List Placed → Type 0
IsNumbered k [] = Unit {0}
IsNumbered k (e ∷ es) = (e.number ≡ k) × IsNumbered (k + 1) es

body_numbered : (k : ℕ) (p : Planned) (b : Body) (rest : List Placed) → IsNumbered (k + count_of b) rest → IsNumbered k (events_of k p b ++ rest)
body_numbered k p (Instant e) rest h = (refl, h)
body_numbered k p (Durative start end invariant) rest h = (refl, (refl, let two : k + 2 ≡ (k + 1) + 1 = omega arith in subst (λ n. IsNumbered n rest) two h))

pub numbered : (k : ℕ) (ps : List Planned) → IsNumbered k (events_from k ps)
numbered k [] = tt
numbered k (p ∷ ps) = body_numbered k p p.body (events_from (k + count_of p.body) ps) (numbered (k + count_of p.body) ps)

-- what happens at some events

abbrev pub times : List Placed → List EventOfStep
times fs = map (λ e. e.timed) fs

-- the number of the first that passes
abbrev pub first_number : (EventOfStep → Bool) → List Placed → Option ℕ
first_number P [] = None
first_number P (e ∷ fs) = cond (P e.timed) (Some e.number) (first_number P fs)

number_step : (m k : ℕ) (P : EventOfStep → Bool) (e : Placed) (es : List Placed) (L : Option ℕ) → e.number ≡ k → L ≡ first_number P (here m es) → (b : Bool) → cond (b && P e.timed) (Some k) L ≡ first_number P (cond b (e ∷ here m es) (here m es))
number_step m k P e es L n h true = ap₂ (λ x r. cond (P e.timed) (Some x) r) (sym n) h
number_step m k P e es L n h false = h

pub by_number : (m : ℕ) (P : EventOfStep → Bool) (k : ℕ) (es : List Placed) → IsNumbered k es → position_from (λ (e : Placed). (e.moment == m) && P e.timed) k es ≡ first_number P (here m es)
by_number m P k [] h = refl
by_number m P k (e ∷ es) h = number_step m k P e es (position_from (λ (u : Placed). (u.moment == m) && P u.timed) (k + 1) es) h.0 (by_number m P (k + 1) es h.1) (e.moment == m)

-- a place in a list that begins at place j
at_same : (x : ℕ) (xs : List ℕ) (i j : ℕ) → j ≡ i → x ≡ get_or (x ∷ xs) (i - j) 0
at_same x xs i j e = let z : 0 ≡ i - j = omega arith in ap (λ k. get_or (x ∷ xs) k 0) z

at_more : (x : ℕ) (xs : List ℕ) (i j : ℕ) → j + 1 ≤ i → get_or xs (i - (j + 1)) 0 ≡ get_or (x ∷ xs) (i - j) 0
at_more x xs i j l = let z : suc (i - (j + 1)) ≡ i - j = omega arith in ap (λ k. get_or (x ∷ xs) k 0) z

least_step : (j i n : ℕ) (L : Option ℕ) → (L ≡ Some i → (j + 1 ≤ i) × (i < j + 1 + n)) → (b : Bool) → cond b (Some j) L ≡ Some i → (j ≤ i) × (i < j + suc n)
least_step j i n L f true h = let q : j ≡ i = cc in (omega arith, omega arith)
least_step j i n L f false h = let q = f h in (omega (arith, q.0), omega (arith, q.1))

pub position_within : {X : Type 0} (P : X → Bool) (j : ℕ) (xs : List X) (i : ℕ) → position_from P j xs ≡ Some i → (j ≤ i) × (i < j + length xs)
position_within P j [] i h = absurd (cc)
position_within P j (x ∷ xs) i h = least_step j i (length xs) (position_from P (j + 1) xs) (position_within P (j + 1) xs i) (P x) h

place_step : (e : Placed) (fs : List Placed) (j i : ℕ) (L R : Option ℕ) → (L ≡ Some i → R ≡ Some (get_or (numbers fs) (i - (j + 1)) 0)) → (L ≡ Some i → j + 1 ≤ i) → (b : Bool) → cond b (Some j) L ≡ Some i → cond b (Some e.number) R ≡ Some (get_or (e.number ∷ numbers fs) (i - j) 0)
place_step e fs j i L R f l true h = let q : j ≡ i = cc in ap (λ x. Some x) (at_same e.number (numbers fs) i j q)
place_step e fs j i L R f l false h = f h ∙ ap (λ x. Some x) (at_more e.number (numbers fs) i j (l h))

pub place_of : (P : EventOfStep → Bool) (fs : List Placed) (j i : ℕ) → position_from P j (times fs) ≡ Some i → first_number P fs ≡ Some (get_or (numbers fs) (i - j) 0)
place_of P [] j i h = absurd (cc)
place_of P (e ∷ fs) j i h =
    place_step e fs j i (position_from P (j + 1) (times fs)) (first_number P fs) (place_of P fs (j + 1) i) (λ q. (position_within P (j + 1) (times fs) i q).0) (P e.timed) h

none_step : (j n : ℕ) (L R : Option ℕ) → (L ≡ None → R ≡ None) → (b : Bool) → cond b (Some j) L ≡ None → cond b (Some n) R ≡ None
none_step j n L R f true h = absurd (cc)
none_step j n L R f false h = f h

pub none_of : (P : EventOfStep → Bool) (fs : List Placed) (j : ℕ) → position_from P j (times fs) ≡ None → first_number P fs ≡ None
none_of P [] j h = refl
none_of P (e ∷ fs) j h = none_step j e.number (position_from P (j + 1) (times fs)) (first_number P fs) (none_of P fs (j + 1)) (P e.timed) h

-- where all fail the test, none is first
pub none_first : (P : EventOfStep → Bool) (fs : List Placed) → AllByRecursion (λ t. P t ≡ false) (times fs) → first_number P fs ≡ None
none_first P [] h = refl
none_first P (e ∷ fs) h = cond-false (P e.timed) _ _ h.0 ∙ none_first P fs h.1

none_all : (P : EventOfStep → Bool) (fs : List Placed) → list_all (λ t. not (P t)) (times fs) ≡ true → first_number P fs ≡ None
none_all P [] h = refl
none_all P (e ∷ fs) h =
    let p = and_parts (not (P e.timed)) (list_all (λ t. not (P t)) (times fs)) h in
    cond-false (P e.timed) _ _ (not-true (P e.timed) p.0) ∙ none_all P fs p.1

-- the numbers of the first two that interfere
abbrev pub first_numbers : List Placed → Option (ℕ × ℕ)
first_numbers [] = None
first_numbers (e ∷ fs) = pair_or e.number (first_number (λ u. interferes e.timed.event u.event) fs) (first_numbers fs)

never : {X : Type 0} (j : ℕ) (xs : List X) → position_from (λ _. false) j xs ≡ None
never j [] = refl
never j (x ∷ xs) = never (j + 1) xs

numbers_step : (m k : ℕ) (e : Placed) (es : List Placed) → e.number ≡ k → IsNumbered (k + 1) es → first_pair m (k + 1) es ≡ first_numbers (here m es) → (b : Bool)
    → pair_or k (position_from (λ (u : Placed). (b && (u.moment == m)) && interferes e.timed.event u.timed.event) (k + 1) es) (first_pair m (k + 1) es) ≡ first_numbers (cond b (e ∷ here m es) (here m es))
numbers_step m k e es n h rest true =
    ap (λ r. pair_or k r (first_pair m (k + 1) es)) (by_number m (λ u. interferes e.timed.event u.event) (k + 1) es h)
    ∙ ap₂ (λ x r. pair_or x (first_number (λ u. interferes e.timed.event u.event) (here m es)) r) (sym n) rest
numbers_step m k e es n h rest false = ap (λ r. pair_or k r (first_pair m (k + 1) es)) (never (k + 1) es) ∙ rest

pub by_numbers : (m k : ℕ) (es : List Placed) → IsNumbered k es → first_pair m k es ≡ first_numbers (here m es)
by_numbers m k [] h = refl
by_numbers m k (e ∷ es) h = numbers_step m k e es h.0 h.1 (by_numbers m (k + 1) es h.1) (e.moment == m)

pairs_step : (j i k n : ℕ) (L : Option ℕ) (R : Option (ℕ × ℕ)) → ((x : ℕ) → L ≡ Some x → (j + 1 ≤ x) × (x < j + 1 + n)) → (R ≡ Some (i, k) → (j + 1 ≤ i) × (i < j + 1 + n) × (j + 1 ≤ k) × (k < j + 1 + n)) → happening.pair_or j L R ≡ Some (i, k)
    → (j ≤ i) × (i < j + suc n) × (j ≤ k) × (k < j + suc n)
pairs_step j i k n (Some x) R f g h =
    let p : (j, x) ≡ (i, k) = cc in let a : j ≡ i = ap (λ (y : ℕ × ℕ). y.0) p in let b : x ≡ k = ap (λ (y : ℕ × ℕ). y.1) p in let q = f x refl in
    (omega arith, omega arith, omega (arith, q.0, b), omega (arith, q.1, b))
pairs_step j i k n None R f g h = let q = g h in (omega (arith, q.0), omega (arith, q.1), omega (arith, q.2), omega (arith, q.3))

pub pair_within : (j : ℕ) (ts : List EventOfStep) (i k : ℕ) → happening.first_pair j ts ≡ Some (i, k) → (j ≤ i) × (i < j + length ts) × (j ≤ k) × (k < j + length ts)
pair_within j [] i k h = absurd (cc)
pair_within j (t ∷ ts) i k h =
    pairs_step j i k (length ts) (position_from (λ (u : EventOfStep). interferes t.event u.event) (j + 1) ts) (happening.first_pair (j + 1) ts)
    (position_within (λ (u : EventOfStep). interferes t.event u.event) (j + 1) ts) (pair_within (j + 1) ts i k) h

places_step : (e : Placed) (fs : List Placed) (j i k : ℕ) (L N : Option ℕ) (R M : Option (ℕ × ℕ))
    → ((x : ℕ) → L ≡ Some x → (N ≡ Some (get_or (numbers fs) (x - (j + 1)) 0)) × (j + 1 ≤ x)) → (L ≡ None → N ≡ None)
    → (R ≡ Some (i, k) → (M ≡ Some (get_or (numbers fs) (i - (j + 1)) 0, get_or (numbers fs) (k - (j + 1)) 0)) × (j + 1 ≤ i) × (j + 1 ≤ k))
    → happening.pair_or j L R ≡ Some (i, k) → pair_or e.number N M ≡ Some (get_or (e.number ∷ numbers fs) (i - j) 0, get_or (e.number ∷ numbers fs) (k - j) 0)
places_step e fs j i k (Some x) N R M f none g h =
    let p : (j, x) ≡ (i, k) = cc in let a : j ≡ i = ap (λ (y : ℕ × ℕ). y.0) p in let b : x ≡ k = ap (λ (y : ℕ × ℕ). y.1) p in let q = f x refl in
    ap (λ n. pair_or e.number n M) q.0
    ∙ ap₂ (λ y z. Some (y, z)) (at_same e.number (numbers fs) i j a) (at_more e.number (numbers fs) x j q.1 ∙ ap (λ z. get_or (e.number ∷ numbers fs) (z - j) 0) b)
places_step e fs j i k None N R M f none g h =
    let q = g h in
    ap (λ n. pair_or e.number n M) (none refl)
    ∙ (q.0 ∙ ap₂ (λ y z. Some (y, z)) (at_more e.number (numbers fs) i j q.1) (at_more e.number (numbers fs) k j q.2))

pub places_of : (fs : List Placed) (j i k : ℕ) → happening.first_pair j (times fs) ≡ Some (i, k) → first_numbers fs ≡ Some (get_or (numbers fs) (i - j) 0, get_or (numbers fs) (k - j) 0)
places_of [] j i k h = absurd (cc)
places_of (e ∷ fs) j i k h =
    let Q : EventOfStep → Bool = λ u. interferes e.timed.event u.event in
    places_step e fs j i k (position_from Q (j + 1) (times fs)) (first_number Q fs) (happening.first_pair (j + 1) (times fs)) (first_numbers fs)
    (λ x q. (place_of Q fs (j + 1) x q, (position_within Q (j + 1) (times fs) x q).0))
    (none_of Q fs (j + 1))
    (λ q. let w = pair_within (j + 1) (times fs) i k q in (places_of fs (j + 1) i k q, w.0, w.2))
    h

pub none_pairs : (fs : List Placed) → apart (times fs) ≡ true → first_numbers fs ≡ None
none_pairs [] h = refl
none_pairs (e ∷ fs) h =
    let p = and_parts (list_all (λ (u : EventOfStep). not (interferes e.timed.event u.event)) (times fs)) (apart (times fs)) h in
    ap (λ r. pair_or e.number r (first_numbers fs)) (none_all (λ u. interferes e.timed.event u.event) fs p.0) ∙ none_pairs fs p.1
