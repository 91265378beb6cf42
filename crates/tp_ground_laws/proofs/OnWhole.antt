-- The actions of a valid plan start, hold and end in each set of atoms that has what they add, and are among those that
-- are asked for.
use Rattle.std.proofs.Common.{◌≡◌, ℕ, zero, suc, ◌+◌, ◌≤◌, Bool, true, not, ◌&&◌, ◌==◌, List, [], ◌∷◌, ◌++◌, map, inl, inr, ⊎_elim, refl, sym, ap, ◌∙◌, subst, arith, eq-eqb, eqb-true}
use Rattle.std.specs.List.{AllByRecursion, list_any}
use Rattle.std.proofs.lemmas.Bool.{and_parts, and_from, or_cases, cases_Bool, cond-true, cond-false}
use Rattle.tp_task.specs.Bounds.{In}
use Rattle.tp_task.specs.Words.{Words}
use Rattle.tp_task.proofs.Lists.{all_from}
use Rattle.tp_ground.specs.Written.{GroundCondition, GroundBody, instant, durative}
use Rattle.tp_ground.specs.Initially.{GroundInitial}
use Rattle.tp_ground.specs.Reached.{met}
use Rattle.tp_ground_laws.specs.WholeTasks.{is_whole, IsWithin}
use Rattle.tp_ground_laws.proofs.ByWords.{WordState, holds_in, stands_in, Timed, Part, Acted, parts_of, parts, parts_at, run, BodyLasts, IsValidByWords}
use Rattle.tp_ground_laws.proofs.OnReached.{when_holds, among, at_its_moment}
use Rattle.tp_ground_laws.proofs.OnSteps.{initially}

-- an event at a moment, of those that pass a test there
some_at : (f : Timed → Bool) (m : ℕ) (es : List Part) → list_any f (parts_at m es) ≡ true → (e : Part) × In e es × (e.moment ≡ m) × (f e.timed ≡ true)
some_at f m [] h = absurd (cc)
some_at f m (e ∷ es) h =
    ⊎_elim
    (λ q. let k : list_any f (e.timed ∷ parts_at m es) ≡ true = subst (λ ys. list_any f (map (λ y. y.timed) ys) ≡ true) (cond-true (e.moment == m) _ _ q) h in
    ⊎_elim (λ a. (e, inl refl, eqb-true e.moment m q, a)) (λ a. let r = some_at f m es a in (r.0, inr r.1, r.2, r.3)) (or_cases (f e.timed) _ k))
    (λ q. let r = some_at f m es (subst (λ ys. list_any f (map (λ y. y.timed) ys) ≡ true) (cond-false (e.moment == m) _ _ q) h) in (r.0, inr r.1, r.2, r.3))
    (cases_Bool (e.moment == m))

module _ (scale : ℕ) (initial : List GroundInitial) (goal : GroundCondition) (plan : List Acted) (v : IsValidByWords scale (initially initial) goal plan) where
  abbrev pub r : ℕ → WordState
  r = run scale (initially initial) (parts plan)

  abbrev Happens : Part → Type 0
  Happens e = holds_in (r e.moment) e.timed.happening.condition ≡ true

  all_happen : AllByRecursion Happens (parts plan)
  all_happen = all_from Happens (parts plan) (λ e i. at_its_moment (λ t. holds_in (r e.moment) t.happening.condition ≡ true) e.moment (parts plan) (v.can_happen e.moment).conditions e i (eq-eqb e.moment e.moment refl))

  abbrev Lasts : Acted → Type 0
  Lasts p = BodyLasts scale r p.moment p.duration p.body

  -- ---- in a set that has the atoms of each state, all parts of each step are met

  module _ (reach : Words → Bool) (sub : (m : ℕ) (w : Words) → (r m).is_true w ≡ true → reach w ≡ true) where
    met_at : (m : ℕ) (c : GroundCondition) → holds_in (r m) c ≡ true → met reach true c ≡ true
    met_at m c h = when_holds (r m) reach (sub m) c h

    whole_of : (p : Acted) (b : GroundBody) (rest : List Part) → BodyLasts scale r p.moment p.duration b → AllByRecursion Happens (parts_of p b ++ rest) → (is_whole reach b ≡ true) × AllByRecursion Happens rest
    whole_of p (instant h) rest l a = (met_at p.moment h.condition a.0, a.1)
    whole_of p (durative start end invariant) rest l a =
        let tick = l.tick in (
          and_from (met reach true start.condition) _ (met_at p.moment start.condition a.0)
              (and_from (met reach true invariant) _ (met_at (p.moment + 1) invariant (l.invariant_holds p.moment (omega arith) (omega (arith, tick)))) (met_at (p.moment + p.duration) end.condition a.1.0)),
          a.1.1,
        )

    whole_from : (ps : List Acted) → AllByRecursion Lasts ps → AllByRecursion Happens (parts ps) → AllByRecursion (λ p. is_whole reach p.body ≡ true) ps
    whole_from [] l a = tt
    whole_from (p ∷ ps) l a = let k = whole_of p p.body (parts ps) l.0 a in (k.0, whole_from ps l.1 k.1)

    pub all_whole : AllByRecursion (λ p. is_whole reach p.body ≡ true) plan
    all_whole = whole_from plan v.lasts all_happen

  -- ---- a set that has what the steps add in it has the atoms of each state

  module _ (reach : Words → Bool) (first : (w : Words) → (initially initial).is_true w ≡ true → reach w ≡ true) (within : AllByRecursion (λ p. IsWithin reach p.body) plan) where
    -- the states up to a moment
    module _ (m : ℕ) (sub : (k : ℕ) → k ≤ m → (w : Words) → (r k).is_true w ≡ true → reach w ≡ true) (w : Words) where
      met_by : (k : ℕ) → k ≤ m → (c : GroundCondition) → holds_in (r k) c ≡ true → met reach true c ≡ true
      met_by k l c h = when_holds (r k) reach (sub k l) c h

      added_by_one : (p : Acted) (b : GroundBody) (rest : List Part) → IsWithin reach b → BodyLasts scale r p.moment p.duration b → AllByRecursion Happens (parts_of p b ++ rest) → (e : Part) → In e (parts_of p b ++ rest) → e.moment ≡ m → stands_in e.timed.happening.adds w ≡ true → (In e rest → reach w ≡ true) → reach w ≡ true
      added_by_one p (instant h) rest i l a e (inl q) at s other =
          let now : p.moment ≡ m = ap (λ (x : Part). x.moment) (sym q) ∙ at in
          i (met_by p.moment (omega (arith, now)) h.condition a.0) w (among h.adds w (subst (λ (x : Part). stands_in x.timed.happening.adds w ≡ true) q s))
      added_by_one p (instant h) rest i l a e (inr k) at s other = other k
      added_by_one p (durative start end invariant) rest i l a e (inl q) at s other =
          let now : p.moment ≡ m = ap (λ (x : Part). x.moment) (sym q) ∙ at in
          (i (met_by p.moment (omega (arith, now)) start.condition a.0)).0 w (among start.adds w (subst (λ (x : Part). stands_in x.timed.happening.adds w ≡ true) q s))
      added_by_one p (durative start end invariant) rest i l a e (inr (inl q)) at s other =
          let now : p.moment + p.duration ≡ m = ap (λ (x : Part). x.moment) (sym q) ∙ at in
          let tick = l.tick in
          (i (met_by p.moment (omega (arith, now)) start.condition a.0)).1
          (met_by (p.moment + 1) (omega (arith, now, tick)) invariant (l.invariant_holds p.moment (omega arith) (omega (arith, tick))))
          (met_by (p.moment + p.duration) (omega (arith, now)) end.condition a.1.0)
          w (among end.adds w (subst (λ (x : Part). stands_in x.timed.happening.adds w ≡ true) q s))
      added_by_one p (durative start end invariant) rest i l a e (inr (inr k)) at s other = other k

      rest_happens : (p : Acted) (b : GroundBody) (rest : List Part) → AllByRecursion Happens (parts_of p b ++ rest) → AllByRecursion Happens rest
      rest_happens p (instant h) rest a = a.1
      rest_happens p (durative start end invariant) rest a = a.1.1

      added_by : (ps : List Acted) → AllByRecursion (λ p. IsWithin reach p.body) ps → AllByRecursion Lasts ps → AllByRecursion Happens (parts ps) → (e : Part) → In e (parts ps) → e.moment ≡ m → stands_in e.timed.happening.adds w ≡ true → reach w ≡ true
      added_by [] i l a e k at s = absurd k
      added_by (p ∷ ps) i l a e k at s =
          added_by_one p p.body (parts ps) i.0 l.0 a e k at s (λ k. added_by ps i.1 l.1 (rest_happens p p.body (parts ps) a) e k at s)

    up_to : (n m : ℕ) → m ≤ n → (w : Words) → (r m).is_true w ≡ true → reach w ≡ true
    up_to n zero l w h = first w h
    up_to zero (suc m) l w h = absurd (omega (arith, l))
    up_to (suc n) (suc m) l w h =
        ⊎_elim
        (λ q. let f = some_at (λ t. stands_in t.happening.adds w) m (parts plan) q in
        added_by m (λ k le. up_to n k (omega (arith, l, le))) w plan within v.lasts all_happen f.0 f.1 f.2 f.3)
        (λ q. up_to n m (omega (arith, l)) w (and_parts ((r m).is_true w) _ q).0)
        (or_cases (list_any (λ (t : Timed). stands_in t.happening.adds w) (parts_at m (parts plan))) ((r m).is_true w && not (list_any (λ (t : Timed). stands_in t.happening.deletes w) (parts_at m (parts plan)))) h)

    pub whole_within : AllByRecursion (λ p. is_whole reach p.body ≡ true) plan
    whole_within = all_whole reach (λ m w h. up_to m m (omega arith) w h)
