-- When the expressions of events stay small, and when one of them does not.
use Rattle.std.proofs.Common.{◌≡◌, ℕ, Bool, true, false, ◌&&◌, List, [], ◌∷◌, Option, ℤ, ◌⊎◌, inl, inr, ⊎_elim, refl, sym, ◌∙◌}
use Rattle.std.specs.List.{list_all}
use Rattle.std.proofs.lemmas.Bool.{and_parts, and_from, and_left, and_right, and_cases, false_from_ne_true, true≢false}
use Rattle.tp_task.specs.declared.events.NumericEffect.{NumericEffect}
use Rattle.tp_task.specs.State.{State, units}
use Rattle.tp_task.specs.Happens.{EventOfStep}
use Rattle.tp_happen.specs.Small.{values_small, all_small}
use Rattle.tp_happen.specs.Bounded.{product_small, effect_small, effects_small, constraint_small, event_small, all_sums_small, Passes}
use Rattle.tp_happen.specs.Terms.{terms_small, condition_small}

-- one that fails a weaker test fails the stronger one
all_below : {X : Type 0} (p q : X → Bool) → ((x : X) → q x ≡ true → p x ≡ true) → (xs : List X) → list_all p xs ≡ false → list_all q xs ≡ false
all_below p q f [] h = h
all_below p q f (x ∷ xs) h =
    ⊎_elim
    (λ e. and_left (q x) (list_all q xs) (false_from_ne_true (q x) (λ z. true≢false (sym (f x z) ∙ e))))
    (λ e. and_right (q x) (list_all q xs) (all_below p q f xs e))
    (and_cases (p x) (list_all p xs) h)

right_sides : (s : State) (d : Option ℤ) (ws : List NumericEffect) → list_all (effect_small s d) ws ≡ true → list_all (λ (w : NumericEffect). values_small s d w.value) ws ≡ true
right_sides s d [] h = refl
right_sides s d (w ∷ ws) h =
    let p = and_parts (effect_small s d w) (list_all (effect_small s d) ws) h in
    and_from (values_small s d w.value) _ (and_parts (values_small s d w.value) (product_small s d w w.change) p.0).0 (right_sides s d ws p.1)

module _ (scale : ℕ) (s : State) where
  parts : (t : EventOfStep) → event_small scale s t ≡ true → (condition_small s t ≡ true) × (effects_small scale s t ≡ true) × (constraint_small s t ≡ true)
  parts t h =
      let p = and_parts (all_small s t.event.condition) (effects_small scale s t && constraint_small s t) h in
      let q = and_parts (effects_small scale s t) (constraint_small s t) p.1 in
      (p.0, q.0, q.1)

  terms_of : (t : EventOfStep) → event_small scale s t ≡ true → terms_small scale s t ≡ true
  terms_of t h =
      let p = parts t h in
      and_from (list_all (λ (w : NumericEffect). values_small s (units scale t.ticks) w.value) t.event.writes.items) (constraint_small s t) (right_sides s (units scale t.ticks) t.event.writes.items p.1) p.2

  pub terms_pass : (ts : List EventOfStep) → list_all (terms_small scale s) ts ≡ false → list_all (event_small scale s) ts ≡ false
  terms_pass = all_below (terms_small scale s) (event_small scale s) terms_of

  pub conditions_pass : (ts : List EventOfStep) → list_all (condition_small s) ts ≡ false → list_all (event_small scale s) ts ≡ false
  conditions_pass = all_below (condition_small s) (event_small scale s) (λ t h. (parts t h).0)

  effects_pass : (ts : List EventOfStep) → list_all (effects_small scale s) ts ≡ false → list_all (event_small scale s) ts ≡ false
  effects_pass = all_below (effects_small scale s) (event_small scale s) (λ t h. (parts t h).1)

  pub all_expressions : (ts : List EventOfStep) → list_all (terms_small scale s) ts ≡ true → list_all (condition_small s) ts ≡ true → list_all (effects_small scale s) ts ≡ true → list_all (event_small scale s) ts ≡ true
  all_expressions [] a b c = refl
  all_expressions (t ∷ ts) a b c =
      let p = and_parts (terms_small scale s t) (list_all (terms_small scale s) ts) a in
      let q = and_parts (condition_small s t) (list_all (condition_small s) ts) b in
      let r = and_parts (effects_small scale s t) (list_all (effects_small scale s) ts) c in
      and_from (event_small scale s t) _
      (and_from (all_small s t.event.condition) _ q.0 (and_from (effects_small scale s t) _ r.0 (and_parts (list_all (λ (w : NumericEffect). values_small s (units scale t.ticks) w.value) t.event.writes.items) (constraint_small s t) p.0).1))
      (all_expressions ts p.1 q.1 r.1)

  pub passes_from_writes : (ts : List EventOfStep) → (list_all (effects_small scale s) ts ≡ false) ⊎ ((f : ℕ) × (all_sums_small scale s ts f (s.number f) ≡ false)) → Passes scale s ts
  passes_from_writes ts h = ⊎_elim (λ e. inl (effects_pass ts e)) inr h
