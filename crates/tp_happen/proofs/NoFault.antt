-- Where no fault is found, the events can happen.
use Rattle.std.proofs.Common.{◌≡◌, ℕ, ◌+◌, ◌<◌, Bool, true, false, not, nat_lt, length, get_or, List, [], ◌∷◌, Option, Some, None, refl, sym, ◌∙◌, ⊎_elim, All}
use Rattle.std.specs.List.{position_from, AllByRecursion, list_all}
use Rattle.std.proofs.lemmas.Bool.{cases_Bool, cond-true, cond-false, and_from, and_parts, not_from_false, not-false, ltb-true}
use Rattle.std.proofs.lemmas.List.Sums.{AllPass-from_list_all}
use Rattle.tp_task.specs.declared.events.NumericEffect.{NumericEffect}
use Rattle.tp_task.specs.Event.{interferes}
use Rattle.tp_task.specs.Happens.{EventOfStep, apart}
use Rattle.tp_happen.specs.Fault.{first_pair, pair_or}
use Rattle.tp_happen.specs.Stored.{Stored, fits_in}

-- nothing passes where nothing is found
pub none_passes : {X : Type 0} (p : X → Bool) (i : ℕ) (xs : List X) → None ≡ position_from p i xs → AllByRecursion (λ x. p x ≡ false) xs
none_passes p i [] h = tt
none_passes p i (x ∷ xs) h = ⊎_elim (λ e. absurd (let z = h ∙ cond-true (p x) (Some i) (position_from p (i + 1) xs) e in cc)) (λ e. (e, none_passes p (i + 1) xs (h ∙ cond-false (p x) (Some i) (position_from p (i + 1) xs) e))) (cases_Bool (p x))

pub each_passes : {X : Type 0} (p : X → Bool) (xs : List X) → AllByRecursion (λ x. not (p x) ≡ false) xs → AllByRecursion (λ x. p x ≡ true) xs
each_passes p [] h = tt
each_passes p (x ∷ xs) h = (not-false (p x) h.0, each_passes p xs h.1)

all_apart : (t : EventOfStep) (ts : List EventOfStep) → AllByRecursion (λ (u : EventOfStep). interferes t.event u.event ≡ false) ts → list_all (λ (u : EventOfStep). not (interferes t.event u.event)) ts ≡ true
all_apart t [] h = refl
all_apart t (u ∷ ts) h = and_from (not (interferes t.event u.event)) _ (not_from_false _ h.0) (all_apart t ts h.1)

pair_step : (t : EventOfStep) (ts : List EventOfStep) (i : ℕ) → (None ≡ first_pair (i + 1) ts → apart ts ≡ true) → (r : Option ℕ) → position_from (λ (u : EventOfStep). interferes t.event u.event) (i + 1) ts ≡ r → None ≡ pair_or i r (first_pair (i + 1) ts) → apart (t ∷ ts) ≡ true
pair_step t ts i rest (Some j) e h = absurd (cc)
pair_step t ts i rest None e h = and_from (list_all (λ (u : EventOfStep). not (interferes t.event u.event)) ts) (apart ts) (all_apart t ts (none_passes _ (i + 1) ts (sym e))) (rest h)

pub no_pair : (i : ℕ) (ts : List EventOfStep) → None ≡ first_pair i ts → apart ts ≡ true
no_pair i [] h = refl
no_pair i (t ∷ ts) h = pair_step t ts i (no_pair (i + 1) ts) (position_from (λ (u : EventOfStep). interferes t.event u.event) (i + 1) ts) refl h

-- the parts of what fits
all_below : (n : ℕ) (xs : List ℕ) → list_all (λ a. nat_lt a n) xs ≡ true → All (λ a. a < n) xs
all_below n xs h = λ k d l. ltb-true (get_or xs k d) n (AllPass-from_list_all (λ a. nat_lt a n) xs h k d l)

all_written : (n : ℕ) (ws : List NumericEffect) → list_all (λ (w : NumericEffect). nat_lt w.fluent n) ws ≡ true → All (λ (w : NumericEffect). w.fluent < n) ws
all_written n ws h = λ k d l. ltb-true (get_or ws k d).fluent n (AllPass-from_list_all (λ (w : NumericEffect). nat_lt w.fluent n) ws h k d l)

record Fitting (s : Stored) (t : EventOfStep) : Type 0 where
  adds : list_all (λ a. nat_lt a (length s.atoms)) t.event.adds.items ≡ true
  deletes : list_all (λ a. nat_lt a (length s.atoms)) t.event.deletes.items ≡ true
  writes : list_all (λ (w : NumericEffect). nat_lt w.fluent (length s.numbers)) t.event.writes.items ≡ true

fitting : (s : Stored) (t : EventOfStep) → fits_in s t ≡ true → Fitting s t
fitting s t h =
    let p = and_parts (list_all (λ a. nat_lt a (length s.atoms)) t.event.adds.items) _ h in
    let q = and_parts (list_all (λ a. nat_lt a (length s.atoms)) t.event.deletes.items) (list_all (λ (w : NumericEffect). nat_lt w.fluent (length s.numbers)) t.event.writes.items) p.1 in
    record { adds = p.0; deletes = q.0; writes = q.1 }

fitting_at : (s : Stored) (ts : List EventOfStep) → list_all (fits_in s) ts ≡ true → (k : ℕ) (d : EventOfStep) → k < length ts → Fitting s (get_or ts k d)
fitting_at s ts h k d l = fitting s (get_or ts k d) (AllPass-from_list_all (fits_in s) ts h k d l)

pub fits_adds : (s : Stored) (ts : List EventOfStep) → list_all (fits_in s) ts ≡ true → All (λ (t : EventOfStep). All (λ a. a < length s.atoms) t.event.adds.items) ts
fits_adds s ts h = λ k d l. all_below (length s.atoms) (get_or ts k d).event.adds.items (fitting_at s ts h k d l).adds

pub fits_deletes : (s : Stored) (ts : List EventOfStep) → list_all (fits_in s) ts ≡ true → All (λ (t : EventOfStep). All (λ a. a < length s.atoms) t.event.deletes.items) ts
fits_deletes s ts h = λ k d l. all_below (length s.atoms) (get_or ts k d).event.deletes.items (fitting_at s ts h k d l).deletes

pub fits_writes : (s : Stored) (ts : List EventOfStep) → list_all (fits_in s) ts ≡ true → All (λ (t : EventOfStep). All (λ w. w.fluent < length s.numbers) t.event.writes.items) ts
fits_writes s ts h = λ k d l. all_written (length s.numbers) (get_or ts k d).event.writes.items (fitting_at s ts h k d l).writes
