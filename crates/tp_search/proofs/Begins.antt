-- Which actions can begin, and which interfere.
use Rattle.std.proofs.Common.{◌≡◌, ℕ, ◌+◌, ◌<◌, Bool, true, false, cond, List, [], ◌∷◌, ◌++◌, length, inl, ⊎_elim, Some, slice_get, refl, subst, arith}
use Rattle.std.specs.List.{AllByRecursion}
use Rattle.std.specs.Option.{option_and_then}
use Rattle.std.proofs.lemmas.Bool.{cases_lt}
use Rattle.tp_task.specs.declared.events.GroundEvent.{GroundEvent}
use Rattle.tp_task.specs.declared.task.Task.{Task}
use Rattle.tp_happen.specs.declared.events.Part.TheVariants.{Only}
use Rattle.tp_happen.specs.Parts.{part_of}
use Rattle.tp_validate.specs.OfTask.{scale_of, begin}
use Rattle.tp_search.specs.AtOnce.{CanHappen}
use Rattle.tp_search.specs.Possible.{alone, CanBegin, AreCandidates, AreRising}
use Rattle.tp_search.proofs.Lists.{all_append, in_append_left, in_append_right}
use Rattle.tp_search.proofs.Loop.{only_is}

module _ (t : Task) (a : ℕ) where
  pub single_can : (e : GroundEvent) → Some e ≡ option_and_then (λ b. part_of b Only) (slice_get t.actions.items a) → CanHappen (scale_of t) (begin t) (alone e) → CanBegin t a
  single_can e h can = record { event = e; is = only_is (slice_get t.actions.items a) e h; can = can }

module _ (t : Task) where
  pub more_candidates : (count : ℕ) (among : List ℕ) (wanted : Bool) → count < length t.actions.items → (wanted ≡ false → ¬ CanBegin t count) → AreCandidates t count among → AreCandidates t (count + 1) (cond wanted (among ++ count ∷ []) among)
  more_candidates count among true l n h = record {
    known = all_append (λ a. a < length t.actions.items) among (count ∷ []) h.known (l, tt);
    all = λ a k c. ⊎_elim (λ m. in_append_left a among (count ∷ []) (h.all a m c)) (λ m. let e : a ≡ count = omega arith in in_append_right a among (count ∷ []) (inl e)) (cases_lt a count);
  }
  more_candidates count among false l n h = record {
    known = h.known;
    all = λ a k c. ⊎_elim (λ m. h.all a m c) (λ m. let e : a ≡ count = omega arith in absurd (n refl (subst (CanBegin t) e c))) (cases_lt a count);
  }

  pub all_begin : (count : ℕ) (among : List ℕ) (wanted : Bool) → (wanted ≡ true → CanBegin t count) → AllByRecursion (CanBegin t) among → AllByRecursion (CanBegin t) (cond wanted (among ++ count ∷ []) among)
  all_begin count among true h k = all_append (CanBegin t) among (count ∷ []) k (h refl, tt)
  all_begin count among false h k = k

wider : (count : ℕ) (among : List ℕ) → AllByRecursion (λ a. a < count) among → AllByRecursion (λ a. a < count + 1) among
wider count [] h = tt
wider count (a ∷ among) h = (omega (arith, h.0), wider count among h.1)

pub more_below : (count : ℕ) (among : List ℕ) (wanted : Bool) → AllByRecursion (λ a. a < count) among → AllByRecursion (λ a. a < count + 1) (cond wanted (among ++ count ∷ []) among)
more_below count among true h = all_append (λ a. a < count + 1) among (count ∷ []) (wider count among h) (omega arith, tt)
more_below count among false h = wider count among h

rising_before : (count : ℕ) (among : List ℕ) → AllByRecursion (λ a. a < count) among → AreRising among → AreRising (among ++ count ∷ [])
rising_before count [] h k = (tt, tt)
rising_before count (a ∷ among) h k = (all_append (λ b. a < b) among (count ∷ []) k.0 (h.0, tt), rising_before count among h.1 k.1)

pub more_rising : (count : ℕ) (among : List ℕ) (wanted : Bool) → AllByRecursion (λ a. a < count) among → AreRising among → AreRising (cond wanted (among ++ count ∷ []) among)
more_rising count among true h k = rising_before count among h k
more_rising count among false h k = k
