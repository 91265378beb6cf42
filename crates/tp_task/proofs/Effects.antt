-- Interference, case by case; and what an event's effects do in two states that agree on what it reads.
use Rattle.std.proofs.Common.{◌≡◌, ℕ, Bool, true, false, cond, not, ◌&&◌, ◌||◌, ◌==◌, List, [], ◌∷◌, ◌++◌, map, inl, inr, ⊎_elim, refl, sym, ap, ap₂, subst, Option, None, ℤ, pos, ◌+ℤ◌, ◌*ℤ◌, filter, eq-eqb, is_some}
use Rattle.std.specs.List.{list_any, list_all, flat_map}
use Rattle.std.proofs.lemmas.Bool.{or_parts, or_cases, or_left, or_right, cond-true, not_from_false}
use Rattle.tp_task.specs.declared.events.Change.{Change}
use Rattle.tp_task.specs.declared.events.Change.TheVariants.{Assign, ScaleUp, Increase, Decrease}
use Rattle.tp_task.specs.declared.events.GroundEvent.{GroundEvent}
use Rattle.tp_task.specs.declared.events.NumericEffect.{NumericEffect}
use Rattle.tp_task.specs.declared.events.Limit.{Limit}
use Rattle.tp_task.specs.State.{State, both, value, fluents_of, atoms_in, mentions_duration}
use Rattle.tp_task.specs.Event.{has, meets, interferes, disturbs, fluents_read, fluents_set, fluents_written, is_additive}
use Rattle.tp_task.specs.Happens.{value_set, amount, set_in, added_in, is_assign}
use Rattle.tp_task.proofs.Same.{has_left, has_right, meets_at, value_same, SameNumbers, SameDuration}

-- the four cases
pub touches_condition : (a b : GroundEvent) (x : ℕ) → has (a.adds.items ++ a.deletes.items) x ≡ true → has (atoms_in b.condition) x ≡ true → interferes a b ≡ true
touches_condition a b x h k = or_left (disturbs a b) _ (or_left (meets (a.adds.items ++ a.deletes.items) (atoms_in b.condition)) _ (meets_at _ _ x h k))

pub adds_deleted : (a b : GroundEvent) (x : ℕ) → has a.adds.items x ≡ true → has b.deletes.items x ≡ true → interferes a b ≡ true
adds_deleted a b x h k = or_left (disturbs a b) _ (or_right (meets (a.adds.items ++ a.deletes.items) (atoms_in b.condition)) _ (or_left (meets a.adds.items b.deletes.items) _ (meets_at _ _ x h k)))

pub writes_read : (a b : GroundEvent) (f : ℕ) → has (fluents_written a) f ≡ true → has (fluents_read b) f ≡ true → interferes a b ≡ true
writes_read a b f h k = or_left (disturbs a b) _ (or_right (meets (a.adds.items ++ a.deletes.items) (atoms_in b.condition)) _ (or_right (meets a.adds.items b.deletes.items) _ (or_left (meets (fluents_written a) (fluents_read b)) _ (meets_at _ _ f h k))))

pub sets_written : (a b : GroundEvent) (f : ℕ) → has (fluents_set a) f ≡ true → has (fluents_written b) f ≡ true → interferes a b ≡ true
sets_written a b f h k = or_left (disturbs a b) _ (or_right (meets (a.adds.items ++ a.deletes.items) (atoms_in b.condition)) _ (or_right (meets a.adds.items b.deletes.items) _ (or_right (meets (fluents_written a) (fluents_read b)) _ (meets_at _ _ f h k))))

pub swapped : (a b : GroundEvent) → interferes b a ≡ true → interferes a b ≡ true
swapped a b h = ⊎_elim (or_right (disturbs a b) _) (or_left (disturbs a b) _) (or_cases (disturbs b a) (disturbs a b) h)

-- the fluents that writes set
abbrev pub set_fluents : List NumericEffect → List ℕ
set_fluents ws = map (λ w. w.fluent) (filter (λ w. not (is_additive w.change)) ws)

pub set_here : (w : NumericEffect) (ws : List NumericEffect) → is_additive w.change ≡ false → has (set_fluents (w ∷ ws)) w.fluent ≡ true
set_here w ws h = subst (λ (vs : List NumericEffect). has (map (λ v. v.fluent) vs) w.fluent ≡ true) (sym (cond-true (not (is_additive w.change)) _ _ (not_from_false (is_additive w.change) h))) (or_left (w.fluent == w.fluent) _ (eq-eqb w.fluent w.fluent refl))

pub set_there : (w : NumericEffect) (ws : List NumericEffect) (f : ℕ) → has (set_fluents ws) f ≡ true → has (set_fluents (w ∷ ws)) f ≡ true
set_there w ws f h = go (not (is_additive w.change))
  where
    go : (b : Bool) → has (map (λ (v : NumericEffect). v.fluent) (cond b (w ∷ filter (λ v. not (is_additive v.change)) ws) (filter (λ v. not (is_additive v.change)) ws))) f ≡ true
    go true = or_right (w.fluent == f) _ h
    go false = h

module _ (s s' : State) (d d' : Option ℤ) where
  value_set_same : (w : NumericEffect) (c : Change) → (is_additive c ≡ false → s.number w.fluent ≡ s'.number w.fluent) → value s d w.value ≡ value s' d' w.value → value_set s d w c ≡ value_set s' d' w c
  value_set_same w Assign h e = e
  value_set_same w ScaleUp h e = ap₂ (both ◌*ℤ◌) (h refl) e
  value_set_same w Increase h e = refl
  value_set_same w Decrease h e = refl

  heads : (w : NumericEffect) (ws : List NumericEffect) → SameNumbers s s' (flat_map (λ v. fluents_of v.value) (w ∷ ws)) → SameDuration d d' (list_any (λ v. mentions_duration v.value) (w ∷ ws)) → value s d w.value ≡ value s' d' w.value
  heads w ws h k = value_same s s' d d' w.value (λ f i. h f (has_left (fluents_of w.value) _ f i)) (⊎_elim inl (λ e. inr (or_parts (mentions_duration w.value) _ e).0) k)

  tails : (w : NumericEffect) (ws : List NumericEffect) → SameDuration d d' (list_any (λ v. mentions_duration v.value) (w ∷ ws)) → SameDuration d d' (list_any (λ v. mentions_duration v.value) ws)
  tails w ws k = ⊎_elim inl (λ e. inr (or_parts (mentions_duration w.value) _ e).1) k

  pub set_same : (ws : List NumericEffect) → SameNumbers s s' (flat_map (λ w. fluents_of w.value) ws) → SameNumbers s s' (set_fluents ws) → SameDuration d d' (list_any (λ w. mentions_duration w.value) ws) → (f : ℕ) (x : Option ℤ) → set_in s d ws f x ≡ set_in s' d' ws f x
  set_same [] h g k f x = refl
  set_same (w ∷ ws) h g k f x =
      ap₂ (cond ((w.fluent == f) && not (is_additive w.change)))
      (value_set_same w w.change (λ a. g w.fluent (set_here w ws a)) (heads w ws h k))
      (set_same ws (λ f i. h f (has_right (fluents_of w.value) _ f i)) (λ f i. g f (set_there w ws f i)) (tails w ws k) f x)

  pub added_same : (ws : List NumericEffect) → SameNumbers s s' (flat_map (λ w. fluents_of w.value) ws) → SameDuration d d' (list_any (λ w. mentions_duration w.value) ws) → (f : ℕ) → added_in s d ws f ≡ added_in s' d' ws f
  added_same [] h k f = refl
  added_same (w ∷ ws) h k f = ap₂ ◌+ℤ◌ (ap (λ v. cond (w.fluent == f) (amount w.change v) (pos 0)) (heads w ws h k)) (added_same ws (λ f i. h f (has_right (fluents_of w.value) _ f i)) (tails w ws k) f)

  pub writes_defined_same : (ws : List NumericEffect) → SameNumbers s s' (flat_map (λ w. fluents_of w.value) ws) → ((f : ℕ) → has (map (λ w. w.fluent) ws) f ≡ true → is_some (s.number f) ≡ is_some (s'.number f)) → SameDuration d d' (list_any (λ w. mentions_duration w.value) ws) → list_all (λ w. is_some (value s d w.value) && (is_assign w.change || is_some (s.number w.fluent))) ws ≡ list_all (λ w. is_some (value s' d' w.value) && (is_assign w.change || is_some (s'.number w.fluent))) ws
  writes_defined_same [] h g k = refl
  writes_defined_same (w ∷ ws) h g k =
      ap₂ ◌&&◌
      (ap₂ (λ v b. is_some v && (is_assign w.change || b)) (heads w ws h k) (g w.fluent (or_left (w.fluent == w.fluent) _ (eq-eqb w.fluent w.fluent refl))))
      (writes_defined_same ws (λ f i. h f (has_right (fluents_of w.value) _ f i)) (λ f i. g f (or_right (w.fluent == f) _ i)) (tails w ws k))

pub constraint_defined_same : (s s' : State) (ls : List Limit) → SameNumbers s s' (flat_map (λ l. fluents_of l.value) ls) → list_all (λ (l : Limit). is_some (value s None l.value)) ls ≡ list_all (λ (l : Limit). is_some (value s' None l.value)) ls
constraint_defined_same s s' [] h = refl
constraint_defined_same s s' (l ∷ ls) h = ap₂ ◌&&◌ (ap is_some (value_same s s' None None l.value (λ f i. h f (has_left (fluents_of l.value) _ f i)) (inl refl))) (constraint_defined_same s s' ls (λ f i. h f (has_right (fluents_of l.value) _ f i)))
