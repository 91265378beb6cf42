-- Rounds add what events add, no more, and a round that adds nothing leaves a closed set.
use Rattle.std.proofs.Common.{◌≡◌, ℕ, suc, zero, ◌+◌, ◌<◌, ◌≤◌, Bool, true, false, cond, ◌==◌, nat_lt, List, [], ◌∷◌, ◌++◌, length, ◌⊎◌, inl, inr, ⊎_elim, refl, sym, ap, subst, ◌∙◌, arith, eqb-true, eq-eqb, ltb-true, take, slice_set, slice_get, Some, get_or}
use Rattle.std.specs.List.{list_all, count_by}
use Rattle.std.proofs.lemmas.Bool.{and_parts, and_from, or_cases, or_left, or_right, cond-true}
use Rattle.std.proofs.lemmas.List.Recursion.{is_count_by}
use Rattle.std.proofs.Math.Seq.{take-append_seam}
use Rattle.tp_task.specs.declared.events.Cond.{Cond, Row_of-Cond, end_of-Cond, more_of-Cond}
use Rattle.tp_task.specs.declared.events.Cond.TheVariants.{Atom, Compare, Not', And', Or'}
use Rattle.tp_task.specs.declared.events.GroundEvent.{GroundEvent}
use Rattle.tp_task.specs.declared.events.Body.{Body}
use Rattle.tp_task.specs.declared.events.Body.TheVariants.{Instant, Durative}
use Rattle.tp_task.specs.Bounds.{In}
use Rattle.tp_task.specs.Event.{has}
use Rattle.tp_task.specs.State.{State}
use Rattle.tp_task.specs.Fits.{event_fits, body_fits}
use Rattle.tp_task.specs.Reach.{met, each_met, some_met, IsReach}
use Rattle.tp_task.specs.Rounds.{set_of, marked, after_event, after_body, after_round, acts_in, acts_of_bodies, adds_in, adds_fit}
use Rattle.tp_task.specs.Adding.{HasAdded, Adds}

-- each truth of the one list is one of the other
abbrev pub Below : List Bool → List Bool → Type 0
Below [] [] = Unit {0}
Below [] (y ∷ ys) = ⊥
Below (x ∷ xs) [] = ⊥
Below (x ∷ xs) (y ∷ ys) = (x ≡ true → y ≡ true) × Below xs ys

pub below_refl : (xs : List Bool) → Below xs xs
below_refl [] = tt
below_refl (x ∷ xs) = (λ h. h, below_refl xs)

pub below_trans : (xs ys zs : List Bool) → Below xs ys → Below ys zs → Below xs zs
below_trans [] [] [] b c = tt
below_trans [] [] (z ∷ zs) b c = absurd c
below_trans [] (y ∷ ys) zs b c = absurd b
below_trans (x ∷ xs) [] zs b c = absurd b
below_trans (x ∷ xs) (y ∷ ys) [] b c = absurd c
below_trans (x ∷ xs) (y ∷ ys) (z ∷ zs) b c = (λ h. c.0 (b.0 h), below_trans xs ys zs b.1 c.1)

pub below_at : (xs ys : List Bool) → Below xs ys → (a : ℕ) → set_of xs a ≡ true → set_of ys a ≡ true
below_at [] ys b a h = absurd (cc)
below_at (x ∷ xs) [] b a h = absurd b
below_at (x ∷ xs) (y ∷ ys) b zero h = b.0 h
below_at (x ∷ xs) (y ∷ ys) b (suc a) h = below_at xs ys b.1 a h

abbrev pub ones : List Bool → ℕ
ones [] = 0
ones (x ∷ xs) = cond x (1 + ones xs) (ones xs)

pub ones_is : (xs : List Bool) → ones xs ≡ count_by (λ b. b) xs
ones_is xs = is_count_by ones (λ b. b) refl (λ x ys. refl) xs

ones_true : (xs : List Bool) → ones (true ∷ xs) ≡ 1 + ones xs
ones_true xs = refl

ones_false : (xs : List Bool) → ones (false ∷ xs) ≡ ones xs
ones_false xs = refl

pub ones_le : (xs ys : List Bool) → Below xs ys → ones xs ≤ ones ys
ones_le [] [] b = omega arith
ones_le [] (y ∷ ys) b = absurd b
ones_le (x ∷ xs) [] b = absurd b
ones_le (true ∷ xs) (true ∷ ys) b = omega (arith, ones_le xs ys b.1, ones_true xs, ones_true ys)
ones_le (true ∷ xs) (false ∷ ys) b = let h : false ≡ true = b.0 refl in absurd (cc)
ones_le (false ∷ xs) (true ∷ ys) b = omega (arith, ones_le xs ys b.1, ones_false xs, ones_true ys)
ones_le (false ∷ xs) (false ∷ ys) b = ones_le xs ys b.1

-- as many truths: the same list
pub same : (xs ys : List Bool) → Below xs ys → ones ys ≤ ones xs → ys ≡ xs
same [] [] b l = refl
same [] (y ∷ ys) b l = absurd b
same (x ∷ xs) [] b l = absurd b
same (true ∷ xs) (true ∷ ys) b l = ap (λ zs. true ∷ zs) (same xs ys b.1 (omega (arith, ones_true xs, ones_true ys)))
same (true ∷ xs) (false ∷ ys) b l = let h : false ≡ true = b.0 refl in absurd (cc)
same (false ∷ xs) (true ∷ ys) b l = absurd (omega (arith, ones_le xs ys b.1, ones_false xs, ones_true ys))
same (false ∷ xs) (false ∷ ys) b l = ap (λ zs. false ∷ zs) (same xs ys b.1 l)

pub antisym : (xs ys : List Bool) → Below xs ys → Below ys xs → ys ≡ xs
antisym xs ys b c = same xs ys b (ones_le ys xs c)

-- one atom made true
below_set : (xs : List Bool) (a : ℕ) → Below xs (slice_set xs a true)
below_set [] a = tt
below_set (x ∷ xs) zero = (λ h. refl, below_refl xs)
below_set (x ∷ xs) (suc a) = (λ h. h, below_set xs a)

set_there : (xs : List Bool) (a : ℕ) → a < length xs → set_of (slice_set xs a true) a ≡ true
set_there [] a h = absurd (omega arith)
set_there (x ∷ xs) zero h = refl
set_there (x ∷ xs) (suc a) h = set_there xs a (omega arith)

set_only : (xs : List Bool) (a b : ℕ) → set_of (slice_set xs a true) b ≡ true → (set_of xs b ≡ true) ⊎ (a ≡ b)
set_only [] a b h = inl h
set_only (x ∷ xs) zero zero h = inr refl
set_only (x ∷ xs) zero (suc b) h = inl h
set_only (x ∷ xs) (suc a) zero h = inl h
set_only (x ∷ xs) (suc a) (suc b) h = ⊎_elim inl (λ e. inr (ap suc e)) (set_only xs a b h)

set_length : (xs : List Bool) (a : ℕ) → length (slice_set xs a true) ≡ length xs
set_length [] a = refl
set_length (x ∷ xs) zero = refl
set_length (x ∷ xs) (suc a) = ap suc (set_length xs a)

set_same : (xs : List Bool) (a : ℕ) → set_of xs a ≡ true → slice_set xs a true ≡ xs
set_same [] a h = refl
set_same (x ∷ xs) zero h = ap (λ y. y ∷ xs) (sym h)
set_same (x ∷ xs) (suc a) h = ap (λ ys. x ∷ ys) (set_same xs a h)

below_marked : (xs : List Bool) (as' : List ℕ) → Below xs (marked xs as')
below_marked xs [] = below_refl xs
below_marked xs (a ∷ as') = below_trans xs (slice_set xs a true) (marked (slice_set xs a true) as') (below_set xs a) (below_marked (slice_set xs a true) as')

marked_there : (n : ℕ) (xs : List Bool) (as' : List ℕ) → length xs ≡ n → list_all (λ a. nat_lt a n) as' ≡ true → (a : ℕ) → has as' a ≡ true → set_of (marked xs as') a ≡ true
marked_there n xs [] e l a h = absurd (cc)
marked_there n xs (b ∷ as') e l a h =
    let p = and_parts (nat_lt b n) (list_all (λ a. nat_lt a n) as') l in
    ⊎_elim
    (λ w. below_at (slice_set xs b true) (marked (slice_set xs b true) as') (below_marked (slice_set xs b true) as') a (subst (λ z. set_of (slice_set xs b true) z ≡ true) (eqb-true b a w) (set_there xs b (subst (λ z. b < z) (sym e) (ltb-true b n p.0)))))
    (λ w. marked_there n (slice_set xs b true) as' (set_length xs b ∙ e) p.1 a w)
    (or_cases (b == a) (has as' a) h)

marked_only : (xs : List Bool) (as' : List ℕ) (a : ℕ) → set_of (marked xs as') a ≡ true → (set_of xs a ≡ true) ⊎ (has as' a ≡ true)
marked_only xs [] a h = inl h
marked_only xs (b ∷ as') a h =
    ⊎_elim
    (λ e. ⊎_elim inl (λ w. inr (or_left (b == a) _ (eq-eqb b a w))) (set_only xs b a e))
    (λ e. inr (or_right (b == a) _ e))
    (marked_only (slice_set xs b true) as' a h)

-- those that are there already
marked_same : (xs : List Bool) (as' : List ℕ) → list_all (set_of xs) as' ≡ true → marked xs as' ≡ xs
marked_same xs [] h = refl
marked_same xs (a ∷ as') h =
    let p = and_parts (set_of xs a) (list_all (set_of xs) as') h in
    ap (λ ys. marked ys as') (set_same xs a p.0) ∙ marked_same xs as' p.1

-- what is met by a set is met by a larger one
module _ (r o : ℕ → Bool) (sub : (a : ℕ) → r a ≡ true → o a ≡ true) where
  mutual
    pub met_more : (b : Bool) (c : Cond) → met r b c ≡ true → met o b c ≡ true
    met_more true (Atom a) h = sub a h
    met_more false (Atom a) h = refl
    met_more true (Compare how x y) h = refl
    met_more false (Compare how x y) h = refl
    met_more true (Not' p c) h = met_more false c h
    met_more false (Not' p c) h = met_more true c h
    met_more true (And' shape cs) h = each_more true cs h
    met_more false (And' shape cs) h = some_more false cs h
    met_more true (Or' shape cs) h = some_more true cs h
    met_more false (Or' shape cs) h = each_more false cs h

    each_more : {m : _} (b : Bool) (cs : Row_of-Cond m) → each_met r b cs ≡ true → each_met o b cs ≡ true
    each_more b end_of-Cond h = refl
    each_more b (more_of-Cond c cs) h = let p = and_parts (met r b c) (each_met r b cs) h in and_from (met o b c) _ (met_more b c p.0) (each_more b cs p.1)

    some_more : {m : _} (b : Bool) (cs : Row_of-Cond m) → some_met r b cs ≡ true → some_met o b cs ≡ true
    some_more b end_of-Cond h = absurd (cc)
    some_more b (more_of-Cond c cs) h = ⊎_elim (λ e. or_left (met o b c) _ (met_more b c e)) (λ e. or_right (met o b c) _ (some_more b cs e)) (or_cases (met r b c) (some_met r b cs) h)

-- one event
below_event : (xs : List Bool) (e : GroundEvent) → Below xs (after_event xs e)
below_event xs e = go (met (set_of xs) true e.condition)
  where
    go : (b : Bool) → Below xs (cond b (marked xs e.adds.items) xs)
    go true = below_marked xs e.adds.items
    go false = below_refl xs

-- an event whose adds are there already
pub event_kept : (xs : List Bool) (e : GroundEvent) → list_all (set_of xs) e.adds.items ≡ true → after_event xs e ≡ xs
event_kept xs e h = go (met (set_of xs) true e.condition)
  where
    go : (b : Bool) → cond b (marked xs e.adds.items) xs ≡ xs
    go true = marked_same xs e.adds.items h
    go false = refl

abbrev Least : (ℕ → Bool) → List Bool → Type 0
Least other xs = (a : ℕ) → set_of xs a ≡ true → other a ≡ true

event_least : (acts : List GroundEvent) (other : ℕ → Bool) → HasAdded acts other → (xs : List Bool) (e : GroundEvent) → In e acts → Least other xs → Least other (after_event xs e)
event_least acts other closed xs e i sub = go (met (set_of xs) true e.condition) refl
  where
    go : (b : Bool) → met (set_of xs) true e.condition ≡ b → Least other (cond b (marked xs e.adds.items) xs)
    go true m a h = ⊎_elim (sub a) (closed.added e i (met_more (set_of xs) other sub true e.condition m) a) (marked_only xs e.adds.items a h)
    go false m a h = sub a h

-- an event that has nothing to add
abbrev pub IsDone : List Bool → GroundEvent → Type 0
IsDone xs e = met (set_of xs) true e.condition ≡ true → (a : ℕ) → has e.adds.items a ≡ true → set_of xs a ≡ true

event_done : (xs : List Bool) (e : GroundEvent) → adds_in (length xs) e ≡ true → after_event xs e ≡ xs → IsDone xs e
event_done xs e fits q m a h = subst (λ ys. set_of ys a ≡ true) (sym (cond-true (met (set_of xs) true e.condition) (marked xs e.adds.items) xs m) ∙ q) (marked_there (length xs) xs e.adds.items refl fits a h)

-- one action
below_body : (xs : List Bool) (b : Body) → Below xs (after_body xs b)
below_body xs (Instant e) = below_event xs e
below_body xs (Durative start end invariant) = below_trans xs (after_event xs start) (after_event (after_event xs start) end) (below_event xs start) (below_event (after_event xs start) end)

body_least : (acts : List GroundEvent) (other : ℕ → Bool) → HasAdded acts other → (xs : List Bool) (b : Body) (bs : List Body) → ((e : GroundEvent) → In e (acts_of_bodies (b ∷ bs)) → In e acts) → Least other xs → Least other (after_body xs b)
body_least acts other closed xs (Instant e) bs i sub = event_least acts other closed xs e (i e (inl refl)) sub
body_least acts other closed xs (Durative start end invariant) bs i sub =
    event_least acts other closed (after_event xs start) end (i end (inr (inl refl))) (event_least acts other closed xs start (i start (inl refl)) sub)

in_rest : (e : GroundEvent) (b : Body) (bs : List Body) → In e (acts_of_bodies bs) → In e (acts_of_bodies (b ∷ bs))
in_rest e (Instant x) bs i = inr i
in_rest e (Durative start end invariant) bs i = inr (inr i)

-- all actions
pub below_round : (xs : List Bool) (bs : List Body) → Below xs (after_round xs bs)
below_round xs [] = below_refl xs
below_round xs (b ∷ bs) = below_trans xs (after_body xs b) (after_round (after_body xs b) bs) (below_body xs b) (below_round (after_body xs b) bs)

round_least : (acts : List GroundEvent) (other : ℕ → Bool) → HasAdded acts other → (xs : List Bool) (bs : List Body) → ((e : GroundEvent) → In e (acts_of_bodies bs) → In e acts) → Least other xs → Least other (after_round xs bs)
round_least acts other closed xs [] i sub = sub
round_least acts other closed xs (b ∷ bs) i sub = round_least acts other closed (after_body xs b) bs (λ e j. i e (in_rest e b bs j)) (body_least acts other closed xs b bs i sub)

pub round_adds : (xs : List Bool) (bs : List Body) → Adds (acts_of_bodies bs) xs (after_round xs bs)
round_adds xs bs = record {
  kept = below_at xs (after_round xs bs) (below_round xs bs);
  least = λ other closed sub. round_least (acts_of_bodies bs) other closed xs bs (λ e i. i) sub;
}

-- what is read at a place
pub read_at : (bs : List Body) (i : ℕ) (b : Body) → i < length bs → b ≡ get_or bs i b → slice_get bs i ≡ Some b
read_at [] i b l e = absurd (omega arith)
read_at (x ∷ bs) zero b l e = ap Some (sym e)
read_at (x ∷ bs) (suc i) b l e = read_at bs i b (omega arith) e

-- one action of them
in_acts : (bs : List Body) (i : ℕ) (b : Body) → slice_get bs i ≡ Some b → (e : GroundEvent) → In e (acts_in b) → In e (acts_of_bodies bs)
in_acts [] i b q e h = absurd (cc)
in_acts (x ∷ bs) zero b q e h = in_front (acts_in x) e (subst (λ y. In e (acts_in y)) (sym (same_body x b q)) h)
  where
    same_body : (x y : Body) → Some x ≡ Some y → x ≡ y
    same_body x y r = cc

    in_front : (xs : List GroundEvent) (y : GroundEvent) → In y xs → In y (xs ++ acts_of_bodies bs)
    in_front [] y k = absurd k
    in_front (z ∷ zs) y (inl r) = inl r
    in_front (z ∷ zs) y (inr k) = inr (in_front zs y k)
in_acts (x ∷ bs) (suc i) b q e h = in_rest e x bs (in_acts bs i b q e h)

in_alone : (b : Body) (e : GroundEvent) → In e (acts_of_bodies (b ∷ [])) → In e (acts_in b)
in_alone (Instant x) e h = h
in_alone (Durative start end invariant) e h = h

pub action_adds : (xs : List Bool) (bs : List Body) (i : ℕ) (b : Body) → slice_get bs i ≡ Some b → Adds (acts_of_bodies bs) xs (after_body xs b)
action_adds xs bs i b q = record {
  kept = below_at xs (after_body xs b) (below_body xs b);
  least = λ other closed sub. body_least (acts_of_bodies bs) other closed xs b [] (λ e h. in_acts bs i b q e (in_alone b e h)) sub;
}

pub adds_trans : (acts : List GroundEvent) (xs ys zs : List Bool) → Adds acts xs ys → Adds acts ys zs → Adds acts xs zs
adds_trans acts xs ys zs p q = record {
  kept = λ a h. q.kept a (p.kept a h);
  least = λ other closed sub. q.least other closed (p.least other closed sub);
}

body_done : (xs : List Bool) (b : Body) (bs : List Body) → adds_fit (length xs) b ≡ true → after_body xs b ≡ xs → ((e : GroundEvent) → In e (acts_of_bodies bs) → IsDone xs e) → (e : GroundEvent) → In e (acts_of_bodies (b ∷ bs)) → IsDone xs e
body_done xs (Instant x) bs fits q rest e i = ⊎_elim (λ w. subst (IsDone xs) (sym w) (event_done xs x fits q)) (rest e) i
body_done xs (Durative start end invariant) bs fits q rest e i =
    let p = and_parts (adds_in (length xs) start) (adds_in (length xs) end) fits in
    let first : after_event xs start ≡ xs = antisym xs (after_event xs start) (below_event xs start) (subst (λ ys. Below (after_event xs start) ys) q (below_event (after_event xs start) end)) in
    let second : after_event xs end ≡ xs = subst (λ ys. after_event ys end ≡ xs) first q in
    ⊎_elim
    (λ w. subst (IsDone xs) (sym w) (event_done xs start p.0 first))
    (λ j. ⊎_elim (λ w. subst (IsDone xs) (sym w) (event_done xs end p.1 second)) (rest e) j)
    i

-- a round that changes nothing has nothing to add
pub round_done : (xs : List Bool) (bs : List Body) → list_all (adds_fit (length xs)) bs ≡ true → after_round xs bs ≡ xs → (e : GroundEvent) → In e (acts_of_bodies bs) → IsDone xs e
round_done xs [] fits q = λ e i. absurd i
round_done xs (b ∷ bs) fits q =
    let p = and_parts (adds_fit (length xs) b) (list_all (adds_fit (length xs)) bs) fits in
    let first : after_body xs b ≡ xs = antisym xs (after_body xs b) (below_body xs b) (subst (λ ys. Below (after_body xs b) ys) q (below_round (after_body xs b) bs)) in
    body_done xs b bs p.0 first (round_done xs bs p.1 (subst (λ ys. after_round ys bs ≡ xs) first q))

-- a round that leaves the count
pub round_same : (xs : List Bool) (bs : List Body) → count_by (λ b. b) (after_round xs bs) ≤ count_by (λ b. b) xs → after_round xs bs ≡ xs
round_same xs bs h = same xs (after_round xs bs) (below_round xs bs) (subst (λ n. n ≤ ones xs) (sym (ones_is (after_round xs bs))) (subst (λ n. count_by (λ b. b) (after_round xs bs) ≤ n) (sym (ones_is xs)) h))

-- the whole of it
pub settles : (old xs : List Bool) (bs : List Body) → list_all (adds_fit (length old)) bs ≡ true → length xs ≡ length old → count_by (λ b. b) (after_round xs bs) ≤ count_by (λ b. b) xs → HasAdded (acts_of_bodies bs) (set_of (after_round xs bs))
settles old xs bs fits l h =
    let q : after_round xs bs ≡ xs = round_same xs bs h in
    subst (λ ys. HasAdded (acts_of_bodies bs) (set_of ys)) (sym q) (record { added = round_done xs bs (subst (λ n. list_all (adds_fit n) bs ≡ true) (sym l) fits) q })

module _ (atoms fluents : ℕ) where
  event_adds : (e : GroundEvent) → event_fits atoms fluents e ≡ true → adds_in atoms e ≡ true
  event_adds e h = (and_parts (adds_in atoms e) _ h).0

  body_adds : (b : Body) → body_fits atoms fluents b ≡ true → adds_fit atoms b ≡ true
  body_adds (Instant e) h = event_adds e h
  body_adds (Durative start end invariant) h = let p = and_parts (event_fits atoms fluents start) (event_fits atoms fluents end) h in and_from (adds_in atoms start) _ (event_adds start p.0) (event_adds end p.1)

  pub all_adds : (bs : List Body) → list_all (body_fits atoms fluents) bs ≡ true → list_all (adds_fit atoms) bs ≡ true
  all_adds [] h = refl
  all_adds (b ∷ bs) h = let p = and_parts (body_fits atoms fluents b) (list_all (body_fits atoms fluents) bs) h in and_from (adds_fit atoms b) _ (body_adds b p.0) (all_adds bs p.1)

pub reached : (initial : State) (acts : List GroundEvent) (old xs : List Bool) → ((a : ℕ) → initial.atom a ≡ set_of old a) → Adds acts old xs → HasAdded acts (set_of xs) → IsReach initial acts (set_of xs)
reached initial acts old xs first adds settled = record {
  closed = record { has_initial = λ a h. adds.kept a (sym (first a) ∙ h); has_added = settled.added };
  least = λ other closed. adds.least other (record { added = closed.has_added }) (λ a h. closed.has_initial a (first a ∙ h));
}

pub front : (n : ℕ) (xs ys : List Bool) → n ≡ length xs → take n (xs ++ ys) ≡ xs
front n xs ys e = rw e (take-append_seam xs ys)
