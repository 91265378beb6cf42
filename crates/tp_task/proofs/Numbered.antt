-- The events of a plan: their numbers, and the events of the retimed plan.
use Rattle.std.proofs.Common.{◌≡◌, ℕ, ◌+◌, ◌-◌, ◌≤◌, ◌<◌, true, false, ◌||◌, List, [], ◌∷◌, ◌++◌, map, ◌⊎◌, inl, inr, ⊎_elim, refl, sym, ◌∙◌, ap, ap₂, subst, arith}
use Rattle.std.proofs.lemmas.Bool.{or_parts, cases_Bool, MatchBool-at_true}
use Rattle.tp_task.specs.declared.events.Body.{Body}
use Rattle.tp_task.specs.declared.events.Body.TheVariants.{Instant, Durative}
use Rattle.tp_task.specs.State.{State}
use Rattle.tp_task.specs.Valid.{Planned, Placed, events_of, events_from, count_of}
use Rattle.tp_task.specs.Bounds.{In, uses_duration, BodyKeeps, StepsKeep, retimed_body, retimed_from}
use Rattle.tp_task.proofs.Picked.{Rising}
use Rattle.tp_task.proofs.Run.{moved}

pub in_parts : {X : Type 0} (x : X) (xs ys : List X) → In x (xs ++ ys) → In x xs ⊎ In x ys
in_parts x [] ys i = inr i
in_parts x (y ∷ xs) ys (inl e) = inl (inl e)
in_parts x (y ∷ xs) ys (inr i) = ⊎_elim (λ j. inl (inr j)) inr (in_parts x xs ys i)

pub in_left : {X : Type 0} (x : X) (xs ys : List X) → In x xs → In x (xs ++ ys)
in_left x [] ys i = absurd i
in_left x (y ∷ xs) ys (inl e) = inl e
in_left x (y ∷ xs) ys (inr i) = inr (in_left x xs ys i)

pub in_right : {X : Type 0} (x : X) (xs ys : List X) → In x ys → In x (xs ++ ys)
in_right x [] ys i = i
in_right x (y ∷ xs) ys i = inr (in_right x xs ys i)

-- the numbers of a step's events, and of all
of_step : (k : ℕ) (p : Planned) (b : Body) (e : Placed) → In e (events_of k p b) → (k ≤ e.number) × (e.number < k + count_of b)
of_step k p (Instant x) e (inl w) = let n : e.number ≡ k = ap (λ (y : Placed). y.number) w in (omega arith, omega arith)
of_step k p (Instant x) e (inr i) = absurd i
of_step k p (Durative x y c) e (inl w) = let n : e.number ≡ k = ap (λ (y : Placed). y.number) w in (omega arith, omega arith)
of_step k p (Durative x y c) e (inr (inl w)) = let n : e.number ≡ k + 1 = ap (λ (y : Placed). y.number) w in (omega arith, omega arith)
of_step k p (Durative x y c) e (inr (inr i)) = absurd i

pub numbers_from : (k : ℕ) (ps : List Planned) (e : Placed) → In e (events_from k ps) → k ≤ e.number
numbers_from k [] e i = absurd i
numbers_from k (p ∷ ps) e i = ⊎_elim (λ j. (of_step k p p.body e j).0) (λ j. omega (arith, numbers_from (k + count_of p.body) ps e j)) (in_parts e (events_of k p p.body) _ i)

rising_step : (k : ℕ) (p : Planned) (b : Body) (es : List Placed) → Rising es → ((e : Placed) → In e es → k + count_of b ≤ e.number) → Rising (events_of k p b ++ es)
rising_step k p (Instant x) es r f = ((λ e i. omega (arith, f e i)), r)
rising_step k p (Durative x y c) es r f = (first, ((λ e i. omega (arith, f e i)), r))
  where
    later : Placed
    later = record { number = k + 1; first = k; last = k + 1; moment = p.moment + p.duration; timed = record { event = y; ticks = p.duration } }

    first : (e : Placed) → (e ≡ later) ⊎ In e es → k < e.number
    first e (inl w) = let n : e.number ≡ k + 1 = ap (λ (y : Placed). y.number) w in omega arith
    first e (inr i) = omega (arith, f e i)

pub rising_from : (k : ℕ) (ps : List Planned) → Rising (events_from k ps)
rising_from k [] = tt
rising_from k (p ∷ ps) = rising_step k p p.body (events_from (k + count_of p.body) ps) (rising_from (k + count_of p.body) ps) (numbers_from (k + count_of p.body) ps)

-- an event is known by its number
pub one_number : (es : List Placed) → Rising es → (a b : Placed) → In a es → In b es → a.number ≡ b.number → a ≡ b
one_number [] r a b i j e = absurd i
one_number (x ∷ es) r a b (inl v) (inl w) e = v ∙ sym w
one_number (x ∷ es) r a b (inl v) (inr j) e = absurd (let n : a.number ≡ x.number = ap (λ (y : Placed). y.number) v in let l : x.number < b.number = r.0 b j in omega arith)
one_number (x ∷ es) r a b (inr i) (inl w) e = absurd (let n : b.number ≡ x.number = ap (λ (y : Placed). y.number) w in let l : x.number < a.number = r.0 a i in omega arith)
one_number (x ∷ es) r a b (inr i) (inr j) e = one_number es r.1 a b i j e

-- the moments and ticks of an assignment
abbrev pub when_of : (ℕ → ℕ) → Placed → ℕ
when_of t e = t e.number

abbrev pub ticks_of : (ℕ → ℕ) → Placed → ℕ
ticks_of t e = t e.last - t e.first

-- the ticks of a step stay where its effects mention them
ticks_of_step : (scale : ℕ) (trace : ℕ → State) (es : List Placed) (t : ℕ → ℕ) (k : ℕ) (p : Planned) (b : Body) → BodyKeeps scale trace es t k p b → (e : Placed) → In e (events_of k p b) → (e.timed.ticks ≡ ticks_of t e) ⊎ (uses_duration e.timed.event ≡ false)
ticks_of_step scale trace es t k p (Instant x) h e (inl w) = inl (subst (λ (y : Placed). y.timed.ticks ≡ ticks_of t y) (sym w) (omega arith))
ticks_of_step scale trace es t k p (Instant x) h e (inr i) = absurd i
ticks_of_step scale trace es t k p (Durative x y c) h e i = ⊎_elim (λ u. inl (kept u e i)) (λ u. inr (free u e i)) (cases_Bool (uses_duration x || uses_duration y))
  where
    same : (uses_duration x || uses_duration y) ≡ true → p.duration ≡ t (k + 1) - t k
    same u = let d : h.duration.ticks ≡ p.duration = MatchBool-at_true _ _ u h.duration.lawful in omega (arith, h.duration.apart)

    kept : (uses_duration x || uses_duration y) ≡ true → (e : Placed) → In e (events_of k p (Durative x y c)) → e.timed.ticks ≡ ticks_of t e
    kept u e (inl w) = subst (λ (z : Placed). z.timed.ticks ≡ ticks_of t z) (sym w) (same u)
    kept u e (inr (inl w)) = subst (λ (z : Placed). z.timed.ticks ≡ ticks_of t z) (sym w) (same u)
    kept u e (inr (inr i)) = absurd i

    free : (uses_duration x || uses_duration y) ≡ false → (e : Placed) → In e (events_of k p (Durative x y c)) → uses_duration e.timed.event ≡ false
    free u e (inl w) = subst (λ (z : Placed). uses_duration z.timed.event ≡ false) (sym w) (or_parts (uses_duration x) _ u).0
    free u e (inr (inl w)) = subst (λ (z : Placed). uses_duration z.timed.event ≡ false) (sym w) (or_parts (uses_duration x) _ u).1
    free u e (inr (inr i)) = absurd i

pub ticks_kept : (scale : ℕ) (trace : ℕ → State) (es : List Placed) (t : ℕ → ℕ) (k : ℕ) (ps : List Planned) → StepsKeep scale trace es t k ps → (e : Placed) → In e (events_from k ps) → (e.timed.ticks ≡ ticks_of t e) ⊎ (uses_duration e.timed.event ≡ false)
ticks_kept scale trace es t k [] h e i = absurd i
ticks_kept scale trace es t k (p ∷ ps) h e i = ⊎_elim (ticks_of_step scale trace es t k p p.body h.0 e) (ticks_kept scale trace es t (k + count_of p.body) ps h.1 e) (in_parts e (events_of k p p.body) _ i)

-- the events of the retimed plan are the moved events
retimed_step : (scale : ℕ) (trace : ℕ → State) (es : List Placed) (t : ℕ → ℕ) (k : ℕ) (p : Planned) (b : Body) → BodyKeeps scale trace es t k p b → events_of k (retimed_body t k b) (retimed_body t k b).body ≡ map (moved (when_of t) (ticks_of t)) (events_of k p b)
retimed_step scale trace es t k p (Instant x) h = ap (λ n. record { number = k; first = k; last = k; moment = t k; timed = record { event = x; ticks = n } } ∷ []) (let z : 0 ≡ t k - t k = omega arith in z)
retimed_step scale trace es t k p (Durative x y c) h = ap (λ n. record { number = k; first = k; last = k + 1; moment = t k; timed = record { event = x; ticks = t (k + 1) - t k } } ∷ record { number = k + 1; first = k; last = k + 1; moment = n; timed = record { event = y; ticks = t (k + 1) - t k } } ∷ []) (let z : t k + (t (k + 1) - t k) ≡ t (k + 1) = omega (arith, h.duration.apart) in z)

map_append : {X Y : Type 0} (f : X → Y) (xs ys : List X) → map f (xs ++ ys) ≡ map f xs ++ map f ys
map_append f [] ys = refl
map_append f (x ∷ xs) ys = ap (λ zs. f x ∷ zs) (map_append f xs ys)

same_count : (t : ℕ → ℕ) (k : ℕ) (b : Body) → count_of (retimed_body t k b).body ≡ count_of b
same_count t k (Instant x) = refl
same_count t k (Durative x y c) = refl

pub retimed_events : (scale : ℕ) (trace : ℕ → State) (es : List Placed) (t : ℕ → ℕ) (k : ℕ) (ps : List Planned) → StepsKeep scale trace es t k ps → events_from k (retimed_from t k ps) ≡ map (moved (when_of t) (ticks_of t)) (events_from k ps)
retimed_events scale trace es t k [] h = refl
retimed_events scale trace es t k (p ∷ ps) h =
    ap₂ ◌++◌ (retimed_step scale trace es t k p p.body h.0) (ap (λ n. events_from (k + n) (retimed_from t (k + count_of p.body) ps)) (same_count t k p.body) ∙ retimed_events scale trace es t (k + count_of p.body) ps h.1)
    ∙ sym (map_append (moved (when_of t) (ticks_of t)) (events_of k p p.body) (events_from (k + count_of p.body) ps))
