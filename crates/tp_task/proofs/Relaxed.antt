-- Where the goal is not met in a closed set of atoms, no plan is valid.
use Rattle.std.proofs.Common.{◌≡◌, ℕ, suc, zero, ◌+◌, ◌<◌, Bool, true, false, not, ◌&&◌, ◌==◌, List, [], ◌∷◌, ⊎_elim, refl, sym, ap, ◌∙◌, subst, arith, add-one}
use Rattle.std.specs.List.{list_any}
use Rattle.std.proofs.lemmas.Bool.{and_parts, and_from, and_cases, or_cases, or_parts, or_left, or_right, not-true, not-false}
use Rattle.tp_task.specs.declared.events.Cond.{Cond, Row_of-Cond, end_of-Cond, more_of-Cond}
use Rattle.tp_task.specs.declared.events.Cond.TheVariants.{Atom, Compare, Not', And', Or'}
use Rattle.tp_task.specs.declared.events.GroundEvent.{GroundEvent}
use Rattle.tp_task.specs.State.{State, truth, all_true, some_true, has_values, holds}
use Rattle.tp_task.specs.Event.{has}
use Rattle.tp_task.specs.Happens.{EventOfStep}
use Rattle.tp_task.specs.Valid.{Planned, Placed, events, at, IsValidRun}
use Rattle.tp_task.specs.Bounds.{In}
use Rattle.tp_task.specs.Reach.{met, each_met, some_met, IsClosed}
use Rattle.tp_task.proofs.Lists.{all_from}
use Rattle.tp_task.proofs.Picked.{any_picked, all_picked_at}

-- what holds in a state whose atoms are in the set is met, and so is the negation of what doesn't
module _ (s : State) (reach : ℕ → Bool) (sub : (a : ℕ) → s.atom a ≡ true → reach a ≡ true) where
  mutual
    when_true : (c : Cond) → truth s c ≡ true → met reach true c ≡ true
    when_true (Atom a) h = sub a h
    when_true (Compare how x y) h = refl
    when_true (Not' p c) h = when_false c (not-true _ h)
    when_true (And' shape cs) h = each_true cs h
    when_true (Or' shape cs) h = some_true_met cs h

    when_false : (c : Cond) → truth s c ≡ false → met reach false c ≡ true
    when_false (Atom a) h = refl
    when_false (Compare how x y) h = refl
    when_false (Not' p c) h = when_true c (not-false _ h)
    when_false (And' shape cs) h = some_false cs h
    when_false (Or' shape cs) h = each_false cs h

    each_true : {m : _} (cs : Row_of-Cond m) → all_true s cs ≡ true → each_met reach true cs ≡ true
    each_true end_of-Cond h = refl
    each_true (more_of-Cond c cs) h = let p = and_parts (truth s c) (all_true s cs) h in and_from (met reach true c) _ (when_true c p.0) (each_true cs p.1)

    some_true_met : {m : _} (cs : Row_of-Cond m) → some_true s cs ≡ true → some_met reach true cs ≡ true
    some_true_met end_of-Cond h = absurd (cc)
    some_true_met (more_of-Cond c cs) h = ⊎_elim (λ e. or_left (met reach true c) _ (when_true c e)) (λ e. or_right (met reach true c) _ (some_true_met cs e)) (or_cases (truth s c) (some_true s cs) h)

    some_false : {m : _} (cs : Row_of-Cond m) → all_true s cs ≡ false → some_met reach false cs ≡ true
    some_false end_of-Cond h = absurd (cc)
    some_false (more_of-Cond c cs) h = ⊎_elim (λ e. or_left (met reach false c) _ (when_false c e)) (λ e. or_right (met reach false c) _ (some_false cs e)) (and_cases (truth s c) (all_true s cs) h)

    each_false : {m : _} (cs : Row_of-Cond m) → some_true s cs ≡ false → each_met reach false cs ≡ true
    each_false end_of-Cond h = refl
    each_false (more_of-Cond c cs) h = let p = or_parts (truth s c) (some_true s cs) h in and_from (met reach false c) _ (when_false c p.0) (each_false cs p.1)

module _ (scale : ℕ) (initial : State) (goal : Cond) (plan : List Planned) (trace : ℕ → State) (v : IsValidRun scale initial goal plan trace) (acts : List GroundEvent) (own : (e : Placed) → In e (events plan) → In e.timed.event acts) (reach : ℕ → Bool) (closed : IsClosed initial acts reach) where
  added : (m a : ℕ) → ((b : ℕ) → (trace m).atom b ≡ true → reach b ≡ true) → list_any (λ (t : EventOfStep). has t.event.adds.items a) (at m (events plan)) ≡ true → reach a ≡ true
  added m a sub p =
      let (e, i, q, w) = any_picked (λ e. e.moment == m) (λ e. e.timed.ticks) (λ ev. has ev.adds.items a) (events plan) p in
      let h : holds (trace m) e.timed.event.condition ≡ true = all_picked_at (λ x. x.moment == m) (λ x. x.timed.ticks) (λ t. holds (trace m) t.event.condition ≡ true) (events plan) (v.run.next m).conditions e i q in
      closed.has_added e.timed.event (own e i) (when_true (trace m) reach sub e.timed.event.condition (and_parts (has_values (trace m) e.timed.event.condition) _ h).1) a w

  -- each state's atoms are in the set
  stays : (m a : ℕ) → (trace m).atom a ≡ true → reach a ≡ true
  stays zero a h = closed.has_initial a (sym (ap (λ (s : State). s.atom a) v.run.first) ∙ h)
  stays (suc m) a h =
      let h' : (trace (m + 1)).atom a ≡ true = subst (λ k. (trace k).atom a ≡ true) (sym (add-one m)) h in
      ⊎_elim (added m a (stays m)) (λ e. stays m a (and_parts ((trace m).atom a) _ e).0) (or_cases (list_any (λ (t : EventOfStep). has t.event.adds.items a) (at m (events plan))) ((trace m).atom a && not (list_any (λ (t : EventOfStep). has t.event.deletes.items a) (at m (events plan)))) (sym ((v.run.next m).atoms a) ∙ h'))

  behind : (es : List Placed) → (u : ℕ) × ((e : Placed) → In e es → e.moment < u)
  behind [] = (0, λ e i. absurd i)
  behind (x ∷ es) = let (u, f) = behind es in (suc (u + x.moment), λ e i. ⊎_elim (λ w. let q : e.moment ≡ x.moment = ap (λ (z : Placed). z.moment) w in omega arith) (λ j. omega (arith, f e j)) i)

  pub goal_met : met reach true goal ≡ true
  goal_met =
      let (u, f) = behind (events plan) in
      when_true (trace u) reach (stays u) goal (and_parts (has_values (trace u) goal) _ (v.last u (all_from _ (events plan) f))).1
