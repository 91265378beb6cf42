-- The actions of a valid plan have events whose conditions are met in the relaxed reach.
use Rattle.std.proofs.Common.{◌≡◌, ℕ, zero, suc, Bool, true, false, not, ◌&&◌, ◌==◌, List, [], ◌∷◌, ◌++◌, map, filter, ⊎_elim, refl, sym, ◌∙◌, subst, eq-eqb}
use Rattle.std.specs.List.{AllByRecursion, list_any}
use Rattle.std.proofs.lemmas.Bool.{and_parts, and_from, and_cases, or_cases, or_parts, or_left, or_right, not-true, not-false, cases_Bool, cond-true, cond-false}
use Rattle.tp_task.specs.Words.{Words, same_words, has_words}
use Rattle.tp_task.specs.Bounds.{In}
use Rattle.tp_task.proofs.OnWords.{same_words_are, same_words_self}
use Rattle.tp_task.proofs.Lists.{all_from}
use Rattle.tp_ground.specs.Written.{GroundCondition, GroundConditions, atom, compared, negation, all_of, any_of, no_conditions, condition, GroundHappening, GroundBody, instant, durative}
use Rattle.tp_ground.specs.Initially.{GroundInitial}
use Rattle.tp_ground.specs.Reached.{met, each_met, some_met, is_kept, IsClosed}
use Rattle.tp_ground_laws.proofs.ByWords.{WordState, truth_in, all_true_in, some_true_in, has_values_in, holds_in, stands_in, Timed, Part, Acted, parts_of, parts, parts_at, run, IsValidByWords}
use Rattle.tp_ground_laws.proofs.OnRuns.{all_at_moment}
use Rattle.tp_ground_laws.proofs.OnSteps.{initially}

-- what holds in a state whose atoms are in the set is met, and so is the negation of what doesn't
module _ (s : WordState) (reach : Words → Bool) (sub : (w : Words) → s.is_true w ≡ true → reach w ≡ true) where
  mutual
    when_true : (c : GroundCondition) → truth_in s c ≡ true → met reach true c ≡ true
    when_true (atom w) h = sub w h
    when_true (compared how x y) h = refl
    when_true (negation c) h = when_false c (not-true _ h)
    when_true (all_of cs) h = each_true cs h
    when_true (any_of cs) h = some_true_met cs h

    when_false : (c : GroundCondition) → truth_in s c ≡ false → met reach false c ≡ true
    when_false (atom w) h = refl
    when_false (compared how x y) h = refl
    when_false (negation c) h = when_true c (not-false _ h)
    when_false (all_of cs) h = some_false cs h
    when_false (any_of cs) h = each_false cs h

    each_true : (cs : GroundConditions) → all_true_in s cs ≡ true → each_met reach true cs ≡ true
    each_true no_conditions h = refl
    each_true (condition c cs) h = let p = and_parts (truth_in s c) (all_true_in s cs) h in and_from (met reach true c) _ (when_true c p.0) (each_true cs p.1)

    some_true_met : (cs : GroundConditions) → some_true_in s cs ≡ true → some_met reach true cs ≡ true
    some_true_met no_conditions h = absurd (cc)
    some_true_met (condition c cs) h = ⊎_elim (λ e. or_left (met reach true c) _ (when_true c e)) (λ e. or_right (met reach true c) _ (some_true_met cs e)) (or_cases (truth_in s c) (some_true_in s cs) h)

    some_false : (cs : GroundConditions) → all_true_in s cs ≡ false → some_met reach false cs ≡ true
    some_false no_conditions h = absurd (cc)
    some_false (condition c cs) h = ⊎_elim (λ e. or_left (met reach false c) _ (when_false c e)) (λ e. or_right (met reach false c) _ (some_false cs e)) (and_cases (truth_in s c) (all_true_in s cs) h)

    each_false : (cs : GroundConditions) → some_true_in s cs ≡ false → each_met reach false cs ≡ true
    each_false no_conditions h = refl
    each_false (condition c cs) h = let p = or_parts (truth_in s c) (some_true_in s cs) h in and_from (met reach false c) _ (when_false c p.0) (each_false cs p.1)

  pub when_holds : (c : GroundCondition) → holds_in s c ≡ true → met reach true c ≡ true
  when_holds c h = when_true c (and_parts (has_values_in s c) (truth_in s c) h).1

pub among : (vs : List Words) (w : Words) → stands_in vs w ≡ true → has_words vs w ≡ true
among [] w h = absurd (cc)
among (v ∷ vs) w h =
    ⊎_elim
    (λ e. or_left (same_words w v) _ (subst (λ z. same_words w z ≡ true) (sym (same_words_are v w e)) (same_words_self w)))
    (λ e. or_right (same_words w v) _ (among vs w e))
    (or_cases (same_words v w) (stands_in vs w) h)

-- what holds of all events at a moment holds of each that happens then
pub at_its_moment : (P : Timed → Type 0) (m : ℕ) (es : List Part) → AllByRecursion P (parts_at m es) → (e : Part) → In e es → (e.moment == m) ≡ true → P e.timed
at_its_moment P m [] h e i q = absurd i
at_its_moment P m (x ∷ es) h e i q =
    ⊎_elim
    (λ p. let k : AllByRecursion P (x.timed ∷ parts_at m es) = subst (λ ys. AllByRecursion P (map (λ y. y.timed) ys)) (cond-true (x.moment == m) (x ∷ filter (λ y. y.moment == m) es) _ p) h in
    ⊎_elim (λ w. subst (λ (y : Part). P y.timed) (sym w) k.0) (λ j. at_its_moment P m es k.1 e j q) i)
    (λ p. let k : AllByRecursion P (parts_at m es) = subst (λ ys. AllByRecursion P (map (λ y. y.timed) ys)) (cond-false (x.moment == m) _ (filter (λ y. y.moment == m) es) p) h in
    ⊎_elim (λ w. absurd (let z = sym (subst (λ (y : Part). (y.moment == m) ≡ true) w q) ∙ p in cc)) (λ j. at_its_moment P m es k e j q) i)
    (cases_Bool (x.moment == m))

module _ (scale : ℕ) (initial : List GroundInitial) (goal : GroundCondition) (plan : List Acted) (v : IsValidByWords scale (initially initial) goal plan) (acts : List GroundHappening) (own : AllByRecursion (λ e. In e.timed.happening acts) (parts plan)) (reach : Words → Bool) (closed : IsClosed initial acts reach) where
  abbrev r : ℕ → WordState
  r = run scale (initially initial) (parts plan)

  added : (m : ℕ) (w : Words) → ((u : Words) → (r m).is_true u ≡ true → reach u ≡ true) → (ts : List Timed) → AllByRecursion (λ t. In t.happening acts) ts → AllByRecursion (λ t. holds_in (r m) t.happening.condition ≡ true) ts → list_any (λ (t : Timed). stands_in t.happening.adds w) ts ≡ true → reach w ≡ true
  added m w sub [] i h q = absurd (cc)
  added m w sub (t ∷ ts) i h q =
      ⊎_elim
      (λ e. closed.has_added t.happening i.0 (when_holds (r m) reach sub t.happening.condition h.0) w (among t.happening.adds w e))
      (λ e. added m w sub ts i.1 h.1 e)
      (or_cases (stands_in t.happening.adds w) _ q)

  -- each state's atoms are in the set
  pub stays : (m : ℕ) (w : Words) → (r m).is_true w ≡ true → reach w ≡ true
  stays zero w h = closed.has_initial w h
  stays (suc m) w h =
      ⊎_elim
      (λ e. added m w (stays m) (parts_at m (parts plan)) (all_at_moment (λ t. In t.happening acts) m (parts plan) own) (v.can_happen m).conditions e)
      (λ e. stays m w (and_parts ((r m).is_true w) _ e).0)
      (or_cases (list_any (λ (t : Timed). stands_in t.happening.adds w) (parts_at m (parts plan))) ((r m).is_true w && not (list_any (λ (t : Timed). stands_in t.happening.deletes w) (parts_at m (parts plan)))) h)

  all_met : AllByRecursion (λ e. met reach true e.timed.happening.condition ≡ true) (parts plan)
  all_met = all_from _ (parts plan) (λ e i. when_holds (r e.moment) reach (stays e.moment) e.timed.happening.condition (at_its_moment (λ t. holds_in (r e.moment) t.happening.condition ≡ true) e.moment (parts plan) (v.can_happen e.moment).conditions e i (eq-eqb e.moment e.moment refl)))

  kept_of : (p : Acted) (b : GroundBody) (rest : List Part) → AllByRecursion (λ e. met reach true e.timed.happening.condition ≡ true) (parts_of p b ++ rest) → (is_kept reach b ≡ true) × AllByRecursion (λ e. met reach true e.timed.happening.condition ≡ true) rest
  kept_of p (instant h) rest a = (or_left (met reach true h.condition) false a.0, a.1)
  kept_of p (durative start end invariant) rest a = (or_left (met reach true start.condition) _ a.0, a.1.1)

  kept_from : (ps : List Acted) → AllByRecursion (λ e. met reach true e.timed.happening.condition ≡ true) (parts ps) → AllByRecursion (λ p. is_kept reach p.body ≡ true) ps
  kept_from [] a = tt
  kept_from (p ∷ ps) a = let k = kept_of p p.body (parts ps) a in (k.0, kept_from ps k.1)

  pub all_kept : AllByRecursion (λ p. is_kept reach p.body ≡ true) plan
  all_kept = kept_from plan all_met
