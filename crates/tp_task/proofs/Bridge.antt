-- Each atom and each fluent of a run is a register of the plan's events.
use Rattle.std.proofs.Common.{◌≡◌, ℕ, ◌+◌, Bool, true, false, cond, not, ◌&&◌, ◌||◌, ◌==◌, List, [], ◌∷◌, ◌++◌, map, ◌⊎◌, inl, inr, ⊎_elim, refl, sym, ◌∙◌, ap, ap₂, subst, Option, Some, None, ℤ, pos, ◌+ℤ◌, filter, eqb-true, eq-eqb}
use Rattle.std.specs.List.{list_any}
use Rattle.std.proofs.lemmas.Bool.{or_parts, or_cases, or_left, or_right, and_from, cases_Bool, cond-true, cond-false}
use Rattle.std.proofs.Math.IntN.{+ℤ_idr, +ℤ_assoc}
use Rattle.tp_task.specs.declared.events.NumericEffect.{NumericEffect}
use Rattle.tp_task.specs.State.{State, units}
use Rattle.tp_task.specs.Event.{has, fluents_set, fluents_written, is_additive}
use Rattle.tp_task.specs.Happens.{EventOfStep, value_set, set_in, added_in, set_by, added_by, plus, atom_after, number_after}
use Rattle.tp_task.specs.Valid.{Placed}
use Rattle.tp_task.specs.Bounds.{In}
use Rattle.tp_task.proofs.Lists.{total_same}
use Rattle.tp_task.proofs.Same.{has_left, has_right, has_parts}
use Rattle.tp_task.proofs.Register.{Register, IsAt, at_put, at_shift}
use Rattle.tp_task.proofs.Picked.{both_ways, picked, any_picked, none_picked, added_picked, set_picked, Setter, NoSetter}

-- an atom: events that add or delete it put it to whether they add it
abbrev pub atom_register : State → List Placed → ℕ → Register Placed Bool
atom_register initial es a =
    record {
      events = es;
      initial = initial.atom a;
      shifted = λ z v. v;
      shifted_zero = λ v. refl;
      shifted_sum = λ x y v. refl;
      writes = λ e. has (e.timed.event.adds.items ++ e.timed.event.deletes.items) a;
      puts = λ e. has (e.timed.event.adds.items ++ e.timed.event.deletes.items) a;
      value = λ e. has e.timed.event.adds.items a;
      shift = λ e. pos 0;
      puts_writes = λ e h. h;
      shift_writes = λ e h. refl;
    }

pub plus_zero : (v : Option ℤ) → plus (pos 0) v ≡ v
plus_zero (Some x) = ap Some (+ℤ_idr x)
plus_zero None = refl

pub plus_sum : (a b : ℤ) (v : Option ℤ) → plus (a +ℤ b) v ≡ plus b (plus a v)
plus_sum a b (Some x) = ap Some (sym (+ℤ_assoc x a b))
plus_sum a b None = refl

-- what is set is written
pub set_written : (ws : List NumericEffect) (f : ℕ) → has (map (λ w. w.fluent) (filter (λ w. not (is_additive w.change)) ws)) f ≡ true → has (map (λ w. w.fluent) ws) f ≡ true
set_written [] f h = h
set_written (w ∷ ws) f h = go (not (is_additive w.change)) h (set_written ws f)
  where
    go : (b : Bool) → has (map (λ (v : NumericEffect). v.fluent) (cond b (w ∷ filter (λ v. not (is_additive v.change)) ws) (filter (λ v. not (is_additive v.change)) ws))) f ≡ true → (has (map (λ (v : NumericEffect). v.fluent) (filter (λ v. not (is_additive v.change)) ws)) f ≡ true → has (map (λ (v : NumericEffect). v.fluent) ws) f ≡ true) → ((w.fluent == f) || has (map (λ (v : NumericEffect). v.fluent) ws) f) ≡ true
    go true h r = ⊎_elim (λ e. or_left (w.fluent == f) _ e) (λ e. or_right (w.fluent == f) _ (r e)) (or_cases (w.fluent == f) _ h)
    go false h r = or_right (w.fluent == f) _ (r h)

-- nothing is added to a fluent that isn't written
pub added_none : (s : State) (d : Option ℤ) (ws : List NumericEffect) (f : ℕ) → has (map (λ w. w.fluent) ws) f ≡ false → added_in s d ws f ≡ pos 0
added_none s d [] f h = refl
added_none s d (w ∷ ws) f h = ap₂ ◌+ℤ◌ (cond-false (w.fluent == f) _ _ (or_parts (w.fluent == f) _ h).0) (added_none s d ws f (or_parts (w.fluent == f) _ h).1)

-- what is set doesn't depend on the other value
pub set_any : (s : State) (d : Option ℤ) (ws : List NumericEffect) (f : ℕ) (x y : Option ℤ) → has (map (λ w. w.fluent) (filter (λ w. not (is_additive w.change)) ws)) f ≡ true → set_in s d ws f x ≡ set_in s d ws f y
set_any s d [] f x y h = absurd (cc)
set_any s d (w ∷ ws) f x y h = go (w.fluent == f) (not (is_additive w.change)) (had (not (is_additive w.change)) h) (set_any s d ws f x y)
  where
    had : (c : Bool) → has (map (λ (v : NumericEffect). v.fluent) (cond c (w ∷ filter (λ v. not (is_additive v.change)) ws) (filter (λ v. not (is_additive v.change)) ws))) f ≡ true → (((w.fluent == f) && c) ≡ true) ⊎ (has (map (λ (v : NumericEffect). v.fluent) (filter (λ v. not (is_additive v.change)) ws)) f ≡ true)
    had true h = ⊎_elim (λ e. inl (and_from (w.fluent == f) true e refl)) inr (or_cases (w.fluent == f) _ h)
    had false h = inr h

    go : (b c : Bool) → ((b && c) ≡ true) ⊎ (has (map (λ (v : NumericEffect). v.fluent) (filter (λ v. not (is_additive v.change)) ws)) f ≡ true) → (has (map (λ (v : NumericEffect). v.fluent) (filter (λ v. not (is_additive v.change)) ws)) f ≡ true → set_in s d ws f x ≡ set_in s d ws f y) → cond (b && c) (value_set s d w w.change) (set_in s d ws f x) ≡ cond (b && c) (value_set s d w w.change) (set_in s d ws f y)
    go b c (inl e) r = cond-true (b && c) _ _ e ∙ sym (cond-true (b && c) _ _ e)
    go b c (inr e) r = ap (cond (b && c) (value_set s d w w.change)) (r e)

-- a fluent: events that set it put it to a value, others add to it
abbrev pub number_register : ℕ → State → (ℕ → State) → List Placed → ℕ → Register Placed (Option ℤ)
number_register scale initial trace es f =
    record {
      events = es;
      initial = initial.number f;
      shifted = plus;
      shifted_zero = plus_zero;
      shifted_sum = plus_sum;
      writes = λ e. has (fluents_written e.timed.event) f;
      puts = λ e. has (fluents_set e.timed.event) f;
      value = λ e. set_in (trace e.moment) (units scale e.timed.ticks) e.timed.event.writes.items f None;
      shift = λ e. added_in (trace e.moment) (units scale e.timed.ticks) e.timed.event.writes.items f;
      puts_writes = λ e h. set_written e.timed.event.writes.items f h;
      shift_writes = λ e h. added_none (trace e.moment) (units scale e.timed.ticks) e.timed.event.writes.items f h;
    }

-- a happening takes an atom's register on
pub atom_step : (initial : State) (es : List Placed) (a : ℕ) (when : Placed → ℕ) (ticks : Placed → ℕ) (m : ℕ) (s s' : State) → s'.atom a ≡ atom_after s (picked (λ e. when e == m) ticks es) a → IsAt (atom_register initial es a) when m (s.atom a) → IsAt (atom_register initial es a) when (m + 1) (s'.atom a)
atom_step initial es a when ticks m s s' h k = ⊎_elim added (λ none. ⊎_elim (deleted none) (kept none) (cases_Bool (list_any (λ t. has t.event.deletes.items a) now))) (cases_Bool (list_any (λ t. has t.event.adds.items a) now))
  where
    now : List EventOfStep
    now = picked (λ e. when e == m) ticks es

    r : Register Placed Bool
    r = atom_register initial es a

    is_true : (x y : Bool) → x ≡ true → (x || y) ≡ true
    is_true x y e = or_left x y e

    and_true : (x : Bool) → (x && true) ≡ x
    and_true true = refl
    and_true false = refl

    and_false : (x : Bool) → (x && false) ≡ false
    and_false true = refl
    and_false false = refl

    added : list_any (λ t. has t.event.adds.items a) now ≡ true → IsAt r when (m + 1) (s'.atom a)
    added p =
        let (e, i, q, w) = any_picked (λ e. when e == m) ticks (λ ev. has ev.adds.items a) es p in
        subst (IsAt r when (m + 1)) (w ∙ sym (h ∙ is_true _ _ p)) (at_put r when m e i (has_left e.timed.event.adds.items e.timed.event.deletes.items a w) (eqb-true (when e) m q))

    deleted : list_any (λ t. has t.event.adds.items a) now ≡ false → list_any (λ t. has t.event.deletes.items a) now ≡ true → IsAt r when (m + 1) (s'.atom a)
    deleted n p =
        let (e, i, q, w) = any_picked (λ e. when e == m) ticks (λ ev. has ev.deletes.items a) es p in
        subst (IsAt r when (m + 1)) (none_picked (λ e. when e == m) ticks (λ ev. has ev.adds.items a) es n e i q ∙ sym (h ∙ (ap₂ (λ x y. x || (s.atom a && not y)) n p ∙ and_false (s.atom a)))) (at_put r when m e i (has_right e.timed.event.adds.items e.timed.event.deletes.items a w) (eqb-true (when e) m q))

    kept : list_any (λ t. has t.event.adds.items a) now ≡ false → list_any (λ t. has t.event.deletes.items a) now ≡ false → IsAt r when (m + 1) (s'.atom a)
    kept n p =
        subst (IsAt r when (m + 1)) (sym (h ∙ (ap₂ (λ x y. x || (s.atom a && not y)) n p ∙ and_true (s.atom a))))
        (at_shift r when m (s.atom a) k (λ e i w q. ⊎_elim (λ x. both_ways (has e.timed.event.adds.items a) x (none_picked (λ e. when e == m) ticks (λ ev. has ev.adds.items a) es n e i (eq-eqb (when e) m q))) (λ x. both_ways (has e.timed.event.deletes.items a) x (none_picked (λ e. when e == m) ticks (λ ev. has ev.deletes.items a) es p e i (eq-eqb (when e) m q))) (has_parts e.timed.event.adds.items e.timed.event.deletes.items a w)))

-- and a fluent's, if the events do there what the register says
pub number_step : (scale : ℕ) (initial : State) (trace : ℕ → State) (es : List Placed) (f : ℕ) (when : Placed → ℕ) (ticks : Placed → ℕ) (m : ℕ) (s s' : State) → s'.number f ≡ number_after scale s (picked (λ e. when e == m) ticks es) f → ((e : Placed) → In e es → when e ≡ m → ((x : Option ℤ) → set_in s (units scale (ticks e)) e.timed.event.writes.items f x ≡ set_in (trace e.moment) (units scale e.timed.ticks) e.timed.event.writes.items f x) × (added_in s (units scale (ticks e)) e.timed.event.writes.items f ≡ added_in (trace e.moment) (units scale e.timed.ticks) e.timed.event.writes.items f)) → IsAt (number_register scale initial trace es f) when m (s.number f) → IsAt (number_register scale initial trace es f) when (m + 1) (s'.number f)
number_step scale initial trace es f when ticks m s s' h same k = ⊎_elim set kept (set_picked (λ e. when e == m) ticks scale s f other es)
  where
    now : List EventOfStep
    now = picked (λ e. when e == m) ticks es

    r : Register Placed (Option ℤ)
    r = number_register scale initial trace es f

    other : Option ℤ
    other = plus (added_by scale s now f) (s.number f)

    set : Setter (λ e. when e == m) ticks scale s f other es (set_by scale s now f other) → IsAt r when (m + 1) (s'.number f)
    set w =
        let e = w.event in
        subst (IsAt r when (m + 1)) (sym (h ∙ (w.result_is ∙ ((same e w.is_in (eqb-true (when e) m w.is_picked)).0 other ∙ set_any (trace e.moment) (units scale e.timed.ticks) e.timed.event.writes.items f other None w.sets)))) (at_put r when m e w.is_in w.sets (eqb-true (when e) m w.is_picked))

    term : (e : Placed) → In e es → (b : Bool) → (when e == m) ≡ b → cond b (added_in s (units scale (ticks e)) e.timed.event.writes.items f) (pos 0) ≡ cond b (r.shift e) (pos 0)
    term e i true q = (same e i (eqb-true (when e) m q)).1
    term e i false q = refl

    kept : NoSetter (λ e. when e == m) f other es (set_by scale s now f other) → IsAt r when (m + 1) (s'.number f)
    kept w =
        subst (IsAt r when (m + 1)) (sym (h ∙ (w.result_is ∙ ap (λ z. plus z (s.number f)) (added_picked (λ e. when e == m) ticks scale s f es ∙ total_same (λ e. when e == m) (λ e. when e == m) (λ e. added_in s (units scale (ticks e)) e.timed.event.writes.items f) r.shift es (λ e i. term e i (when e == m) refl)))))
        (at_shift r when m (s.number f) k (λ e i p q. both_ways (has (fluents_set e.timed.event) f) p (w.none e i (eq-eqb (when e) m q))))
