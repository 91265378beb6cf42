-- One write after another gives what the happening gives, where no event mixes writes and none interferes with another.
use Rattle.std.proofs.Common.{◌≡◌, ℕ, Bool, true, false, cond, not, ◌&&◌, ◌||◌, ◌==◌, List, [], ◌∷◌, map, filter, ◌⊎◌, inl, inr, ⊎_elim, refl, sym, ◌∙◌, ap, subst, Option, Some, None, ℤ, ◌+ℤ◌, ◌-ℤ◌, is_some, eqb-true, eq-eqb}
use Rattle.std.specs.List.{list_any, list_all, AllByRecursion}
use Rattle.std.proofs.lemmas.Bool.{or_parts, or_cases, or_left, or_right, and_parts, and_from, cases_Bool, not-true, not_from_false, cond-true, cond-false, false_from_ne_true, true_from_ne_false}
use Rattle.std.proofs.Math.IntN.{+ℤ_idl}
use Rattle.tp_task.specs.declared.events.Change.{Change}
use Rattle.tp_task.specs.declared.events.Change.TheVariants.{Assign, ScaleUp, Increase, Decrease}
use Rattle.tp_task.specs.declared.events.NumericEffect.{NumericEffect}
use Rattle.tp_task.specs.State.{State, both, value, units}
use Rattle.tp_task.specs.Event.{has, interferes, is_additive, fluents_set, fluents_written, mixes_in, mixes}
use Rattle.tp_task.specs.Happens.{EventOfStep, value_set, amount, set_in, added_in, set_by, added_by, plus, is_assign, is_defined, apart, atom_after, number_after}
use Rattle.tp_task.specs.InOrder.{after_write, after_writes, after_events, after_deletes, after_adds}
use Rattle.tp_task.proofs.Bridge.{plus_zero, plus_sum}
use Rattle.tp_task.proofs.Effects.{set_fluents, sets_written, set_here, set_there}
use Rattle.tp_task.proofs.Picked.{both_ways}

abbrev written : List NumericEffect → List ℕ
written ws = map (λ w. w.fluent) ws

-- a fluent that isn't written stays
after_none : (s : State) (d : Option ℤ) (ws : List NumericEffect) (f : ℕ) (now : Option ℤ) → has (written ws) f ≡ false → after_writes s d ws f now ≡ now
after_none s d [] f now h = refl
after_none s d (w ∷ ws) f now h = ap (after_writes s d ws f) (cond-false (w.fluent == f) _ _ (or_parts (w.fluent == f) _ h).0) ∙ after_none s d ws f now (or_parts (w.fluent == f) _ h).1

set_write : (s : State) (d : Option ℤ) (w : NumericEffect) (c : Change) (now : Option ℤ) → is_additive c ≡ false → after_write s d w c now ≡ value_set s d w c
set_write s d w Assign now h = refl
set_write s d w ScaleUp now h = refl
set_write s d w Increase now h = absurd (cc)
set_write s d w Decrease now h = absurd (cc)

-- a fluent that is written twice, once by a setting write, is mixed
mixed_with : (w : NumericEffect) (ws : List NumericEffect) (f : ℕ) → (w.fluent == f) ≡ true → is_additive w.change ≡ false → has (written ws) f ≡ true → list_any (λ v. (v.fluent == w.fluent) && not (is_additive v.change && is_additive w.change)) ws ≡ true
mixed_with w [] f h a k = absurd (cc)
mixed_with w (v ∷ ws) f h a k =
    ⊎_elim
    (λ e. or_left _ _ (and_from (v.fluent == w.fluent) _ (eq-eqb v.fluent w.fluent (eqb-true v.fluent f e ∙ sym (eqb-true w.fluent f h))) (not_from_false _ (ap (λ b. is_additive v.change && b) a ∙ and_false (is_additive v.change)))))
    (λ e. or_right ((v.fluent == w.fluent) && not (is_additive v.change && is_additive w.change)) _ (mixed_with w ws f h a e))
    (or_cases (v.fluent == f) _ k)
  where
    and_false : (x : Bool) → (x && false) ≡ false
    and_false true = refl
    and_false false = refl

set_head : (v : NumericEffect) (ws : List NumericEffect) (f : ℕ) → has (set_fluents (v ∷ ws)) f ≡ true → (((v.fluent == f) ≡ true) × (is_additive v.change ≡ false)) ⊎ (has (set_fluents ws) f ≡ true)
set_head v ws f h = go (is_additive v.change) refl h
  where
    go : (b : Bool) → is_additive v.change ≡ b → has (map (λ (u : NumericEffect). u.fluent) (cond (not b) (v ∷ filter (λ u. not (is_additive u.change)) ws) (filter (λ u. not (is_additive u.change)) ws))) f ≡ true → (((v.fluent == f) ≡ true) × (is_additive v.change ≡ false)) ⊎ (has (set_fluents ws) f ≡ true)
    go true e h = inr h
    go false e h = ⊎_elim (λ z. inl (z, e)) inr (or_cases (v.fluent == f) _ h)

mixed_later : (w : NumericEffect) (ws : List NumericEffect) (f : ℕ) → (w.fluent == f) ≡ true → has (set_fluents ws) f ≡ true → list_any (λ v. (v.fluent == w.fluent) && not (is_additive v.change && is_additive w.change)) ws ≡ true
mixed_later w [] f h k = absurd (cc)
mixed_later w (v ∷ ws) f h k =
    ⊎_elim
    (λ e. or_left _ _ (and_from (v.fluent == w.fluent) _ (eq-eqb v.fluent w.fluent (eqb-true v.fluent f e.0 ∙ sym (eqb-true w.fluent f h))) (not_from_false _ (ap (λ b. b && is_additive w.change) e.1))))
    (λ e. or_right ((v.fluent == w.fluent) && not (is_additive v.change && is_additive w.change)) _ (mixed_later w ws f h e))
    (set_head v ws f k)

-- an event that sets the fluent
after_set : (s : State) (d : Option ℤ) (ws : List NumericEffect) (f : ℕ) (now other : Option ℤ) → mixes_in ws ≡ false → has (set_fluents ws) f ≡ true → after_writes s d ws f now ≡ set_in s d ws f other
after_set s d [] f now other m h = absurd (cc)
after_set s d (w ∷ ws) f now other m h =
    ⊎_elim
    (λ e.
    let none : has (written ws) f ≡ false = false_from_ne_true _ (λ z. both_ways _ (mixed_with w ws f e.0 e.1 z) (or_parts _ (mixes_in ws) m).0) in
    ap (after_writes s d ws f) (cond-true (w.fluent == f) _ _ e.0) ∙ (after_none s d ws f _ none ∙ (set_write s d w w.change now e.1 ∙ sym (cond-true ((w.fluent == f) && not (is_additive w.change)) _ _ (and_from (w.fluent == f) _ e.0 (not_from_false _ e.1))))))
    (λ e.
    let other_fluent : (w.fluent == f) ≡ false = false_from_ne_true _ (λ z. both_ways _ (mixed_later w ws f z e) (or_parts _ (mixes_in ws) m).0) in
    ap (after_writes s d ws f) (cond-false (w.fluent == f) _ _ other_fluent) ∙ (after_set s d ws f now other (or_parts _ (mixes_in ws) m).1 e ∙ sym (cond-false ((w.fluent == f) && not (is_additive w.change)) _ _ (ap (λ b. b && not (is_additive w.change)) other_fluent))))
    (set_head w ws f h)

-- an event that doesn't set it
add_up : (v now : Option ℤ) → is_some v ≡ true → both ◌+ℤ◌ now v ≡ plus (amount Increase v) now
add_up (Some x) (Some y) h = refl
add_up (Some x) None h = refl
add_up None now h = absurd (cc)

add_down : (v now : Option ℤ) → is_some v ≡ true → both ◌-ℤ◌ now v ≡ plus (amount Decrease v) now
add_down (Some x) (Some y) h = refl
add_down (Some x) None h = refl
add_down None now h = absurd (cc)

add_write : (s : State) (d : Option ℤ) (w : NumericEffect) (c : Change) (now : Option ℤ) → is_additive c ≡ true → is_some (value s d w.value) ≡ true → after_write s d w c now ≡ plus (amount c (value s d w.value)) now
add_write s d w Assign now a h = absurd (cc)
add_write s d w ScaleUp now a h = absurd (cc)
add_write s d w Increase now a h = add_up (value s d w.value) now h
add_write s d w Decrease now a h = add_down (value s d w.value) now h

abbrev Defined : State → Option ℤ → List NumericEffect → Type 0
Defined s d ws = list_all (λ w. is_some (value s d w.value) && (is_assign w.change || is_some (s.number w.fluent))) ws ≡ true

after_add : (s : State) (d : Option ℤ) (ws : List NumericEffect) (f : ℕ) (now : Option ℤ) → has (set_fluents ws) f ≡ false → Defined s d ws → after_writes s d ws f now ≡ plus (added_in s d ws f) now
after_add s d [] f now n h = sym (plus_zero now)
after_add s d (w ∷ ws) f now n h =
    ⊎_elim
    (λ e.
    let a : is_additive w.change ≡ true = true_from_ne_false _ (λ z. both_ways _ (subst (λ k. has (set_fluents (w ∷ ws)) k ≡ true) (eqb-true w.fluent f e) (set_here w ws z)) n) in
    ap (after_writes s d ws f) (cond-true (w.fluent == f) _ _ e ∙ add_write s d w w.change now a (and_parts _ (is_assign w.change || is_some (s.number w.fluent)) parts.0).0)
    ∙ (after_add s d ws f _ rest parts.1 ∙ (sym (plus_sum _ _ now) ∙ ap (λ z. plus (z +ℤ added_in s d ws f) now) (sym (cond-true (w.fluent == f) _ _ e)))))
    (λ e.
    ap (after_writes s d ws f) (cond-false (w.fluent == f) _ _ e)
    ∙ (after_add s d ws f now rest parts.1 ∙ ap (λ z. plus z now) (sym (+ℤ_idl _) ∙ ap (λ z. z +ℤ added_in s d ws f) (sym (cond-false (w.fluent == f) _ _ e)))))
    (cases_Bool (w.fluent == f))
  where
    parts : ((is_some (value s d w.value) && (is_assign w.change || is_some (s.number w.fluent))) ≡ true) × Defined s d ws
    parts = and_parts (is_some (value s d w.value) && (is_assign w.change || is_some (s.number w.fluent))) _ h

    rest : has (set_fluents ws) f ≡ false
    rest = false_from_ne_true _ (λ z. both_ways _ (set_there w ws f z) n)

-- events that are apart from one that sets the fluent leave it
quiet : (scale : ℕ) (s : State) (t : EventOfStep) (ts : List EventOfStep) (f : ℕ) (now : Option ℤ) → has (fluents_set t.event) f ≡ true → list_all (λ (u : EventOfStep). not (interferes t.event u.event)) ts ≡ true → (after_events scale s ts f now ≡ now)
quiet scale s t [] f now h a = refl
quiet scale s t (u ∷ ts) f now h a =
    let p = and_parts (not (interferes t.event u.event)) _ a in
    let n : has (fluents_written u.event) f ≡ false = false_from_ne_true _ (λ z. both_ways _ (sets_written t.event u.event f h z) (not-true _ p.0)) in
    ap (after_events scale s ts f) (after_none s (units scale u.ticks) u.event.writes.items f now n) ∙ quiet scale s t ts f now h p.1

pub events_in_order : (scale : ℕ) (s : State) (ts : List EventOfStep) (f : ℕ) (now : Option ℤ) → apart ts ≡ true → AllByRecursion (λ t. mixes t.event ≡ false) ts → AllByRecursion (λ t. is_defined scale s t ≡ true) ts → after_events scale s ts f now ≡ set_by scale s ts f (plus (added_by scale s ts f) now)
events_in_order scale s [] f now a m d = sym (plus_zero now)
events_in_order scale s (t ∷ ts) f now a m d =
    ⊎_elim
    (λ h. quiet scale s t ts f _ h p.0 ∙ (after_set s (units scale t.ticks) t.event.writes.items f now _ m.0 h ∙ sym (cond-true (has (fluents_set t.event) f) _ _ h)))
    (λ h.
    ap (after_events scale s ts f) (after_add s (units scale t.ticks) t.event.writes.items f now h (and_parts _ (list_all (λ l. is_some (value s None l.value)) t.event.constraint.items) d.0).0)
    ∙ (events_in_order scale s ts f _ p.1 m.1 d.1
    ∙ (ap (set_by scale s ts f) (sym (plus_sum (added_in s (units scale t.ticks) t.event.writes.items f) (added_by scale s ts f) now)) ∙ sym (cond-false (has (fluents_set t.event) f) _ _ h))))
    (cases_Bool (has (fluents_set t.event) f))
  where
    p : (list_all (λ (u : EventOfStep). not (interferes t.event u.event)) ts ≡ true) × (apart ts ≡ true)
    p = and_parts (list_all (λ (u : EventOfStep). not (interferes t.event u.event)) ts) (apart ts) a

-- so one write after another is the happening
pub in_order : (scale : ℕ) (s : State) (ts : List EventOfStep) (f : ℕ) → apart ts ≡ true → AllByRecursion (λ t. mixes t.event ≡ false) ts → AllByRecursion (λ t. is_defined scale s t ≡ true) ts → after_events scale s ts f (s.number f) ≡ number_after scale s ts f
in_order scale s ts f a m d = events_in_order scale s ts f (s.number f) a m d

-- the deletes and then the adds are the happening's
after_deletes_is : (ts : List EventOfStep) (a : ℕ) (now : Bool) → after_deletes ts a now ≡ (now && not (list_any (λ (t : EventOfStep). has t.event.deletes.items a) ts))
after_deletes_is [] a true = refl
after_deletes_is [] a false = refl
after_deletes_is (t ∷ ts) a now = after_deletes_is ts a _ ∙ go (has t.event.deletes.items a) (list_any (λ (t : EventOfStep). has t.event.deletes.items a) ts) now
  where
    go : (b c now : Bool) → (cond b false now && not c) ≡ (now && not (b || c))
    go true c true = refl
    go true c false = refl
    go false c now = refl

after_adds_is : (ts : List EventOfStep) (a : ℕ) (now : Bool) → after_adds ts a now ≡ (list_any (λ (t : EventOfStep). has t.event.adds.items a) ts || now)
after_adds_is [] a now = refl
after_adds_is (t ∷ ts) a now = after_adds_is ts a _ ∙ go (has t.event.adds.items a) (list_any (λ (t : EventOfStep). has t.event.adds.items a) ts)
  where
    go : (b c : Bool) → (c || cond b true now) ≡ ((b || c) || now)
    go true true = refl
    go true false = refl
    go false c = refl

pub atoms_in_order : (s : State) (ts : List EventOfStep) (a : ℕ) → after_adds ts a (after_deletes ts a (s.atom a)) ≡ atom_after s ts a
atoms_in_order s ts a = after_adds_is ts a _ ∙ ap (λ b. list_any (λ (t : EventOfStep). has t.event.adds.items a) ts || b) (after_deletes_is ts a (s.atom a))
