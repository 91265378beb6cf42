-- How a run goes from one moment with events to the next, and what it comes to.
use Rattle.std.proofs.Common.{◌≡◌, ◌≢◌, ℕ, suc, ◌+◌, ◌-◌, ◌≤◌, ◌<◌, true, List, [], ◌∷◌, length, get_or, Option, Some, None, ⊎_elim, inl, inr, refl, sym, ap, ap₂, ◌∙◌, subst, arith, add-one, All}
use Rattle.std.specs.List.{list_all}
use Rattle.std.proofs.lemmas.Bool.{cases_lt}
use Rattle.tp_task.specs.declared.task.Task.{Task}
use Rattle.tp_task.specs.State.{State}
use Rattle.tp_task.specs.Happens.{EventOfStep}
use Rattle.tp_task.specs.Fits.{event_fits}
use Rattle.tp_task.specs.Valid.{Planned, Placed, events, at}
use Rattle.tp_task.specs.Bounds.{In}
use Rattle.tp_task.specs.Verdict.{Fault, states, fault_at, last_moment}
use Rattle.tp_happen.specs.Stored.{Stored, state_of, first_of, fits_in}
use Rattle.tp_happen.specs.Bounded.{StaysSmall}
use Rattle.tp_validate.specs.OfTask.{scale_of, begin}
use Rattle.tp_validate.specs.Tick.{after_of, fault_from, PassesAt}
use Rattle.tp_validate.specs.Found.{GoesOn}
use Rattle.tp_validate.specs.Reached.{Reached, IsCovered, PassesBy}
use Rattle.tp_validate.proofs.Planning.{fits, events_fit}
use Rattle.tp_validate.proofs.Quiet.{same_until, quiet_until, small_at_rest}

index_in : {X : Type 0} (xs : List X) (x : X) → In x xs → (k : ℕ) × (k < length xs) × (get_or xs k x ≡ x)
index_in [] x i = absurd i
index_in (y ∷ ys) x (inl e) = (0, omega arith, sym e)
index_in (y ∷ ys) x (inr i) = let w = index_in ys x i in (suc w.0, omega (arith, w.1), w.2)

-- what holds of all elements holds of each
pub all_in : {X : Type 0} (P : X → Type 0) (xs : List X) → All P xs → (x : X) → In x xs → P x
all_in P xs h x i = let w = index_in xs x i in subst P w.2 (h w.0 x w.1)

module _ (t : Task) (ps : List Planned) where
  abbrev es : List Placed
  es = events ps

  abbrev s : ℕ → State
  s = states (scale_of t) (begin t) es

  abbrev fault : ℕ → Option Fault
  fault m = fault_at (scale_of t) (begin t) ps m

  pub begins : Reached t ps 0 (first_of t)
  begins =
      record {
        task = record { scale = refl; atoms = refl; numbers = refl };
        state_is = refl;
        clear = λ k l. absurd (omega arith);
        small = λ k l. absurd (omega arith);
        bounded = omega arith;
      }

  still_between : (from m : ℕ) → All (IsCovered from (Some m)) es → (k : ℕ) → from ≤ k → k < m → (e : Placed) → In e es → e.moment ≢ k
  still_between from m c k a b e i q = let w = all_in (IsCovered from (Some m)) es c e i (omega arith) in absurd (omega arith)

  -- up to the next moment with an event
  record UpTo (m : ℕ) (st : Stored) : Type 0 where
    state_is : state_of st ≡ s m
    clear : (k : ℕ) → k < m → fault k ≡ None
    small : (k : ℕ) → k < m → StaysSmall (scale_of t) (s k) (at k es)

  up_to : (from m : ℕ) (st : Stored) → Reached t ps from st → from ≤ m → All (IsCovered from (Some m)) es → UpTo m st
  up_to from m st r l c =
      record {
        state_is = r.state_is ∙ sym (same_until (scale_of t) (begin t) ps from m l (still_between from m c));
        clear = quiet_until (scale_of t) (begin t) ps from r.clear m (still_between from m c);
        small = λ k h. ⊎_elim (λ a. r.small k a) (λ a. small_at_rest (scale_of t) (begin t) ps k (still_between from m c k a h)) (cases_lt k from);
      }

  module _ (from m : ℕ) (st : Stored) (r : Reached t ps from st) (l : from ≤ m) (c : All (IsCovered from (Some m)) es) where
    abbrev u : UpTo m st
    u = up_to from m st r l c

    -- the state is that before the moment
    pub state_here : state_of st ≡ s m
    state_here = u.state_is

    fault_is : fault_from st.scale (state_of st) m ps es ≡ fault m
    fault_is = ap₂ (λ k z. fault_from k z m ps es) r.task.scale u.state_is

    pub before : (k : ℕ) → k < m → fault k ≡ None
    before = u.clear

    pub fault_here : (why : Fault) → fault_from st.scale (state_of st) m ps es ≡ Some why → fault m ≡ Some why
    fault_here why h = sym fault_is ∙ h

    pub passes_here : PassesAt st.scale (state_of st) m ps es → PassesBy t ps
    passes_here h =
        record {
          moment = m;
          before = u.clear;
          passes = subst (λ z. PassesAt (scale_of t) z m ps es) u.state_is (subst (λ k. PassesAt k (state_of st) m ps es) r.task.scale h);
        }

    pub fits_here : list_all (fits (length t.initial_atoms.items) (length t.initial_numbers.items)) ps ≡ true → list_all (fits_in st) (at m es) ≡ true
    fits_here h =
        subst (λ n. list_all (λ (x : EventOfStep). event_fits n (length st.numbers) x.event) (at m es) ≡ true) (sym r.task.atoms)
        (subst (λ n. list_all (λ (x : EventOfStep). event_fits (length t.initial_atoms.items) n x.event) (at m es) ≡ true) (sym r.task.numbers)
        (events_fit (length t.initial_atoms.items) (length t.initial_numbers.items) m 0 ps h))

    pub next : (new : Stored) → m ≤ last_moment es → GoesOn st m ps es new → Reached t ps (m + 1) new
    next new b g =
        record {
          task = record { scale = g.task.scale ∙ r.task.scale; atoms = g.task.atoms ∙ r.task.atoms; numbers = g.task.numbers ∙ r.task.numbers };
          state_is = g.after ∙ (ap₂ (λ k z. after_of k z (at m es)) r.task.scale u.state_is ∙ ap s (sym (add-one m)));
          clear = λ k h. ⊎_elim (λ a. u.clear k a) (λ a. let q : m ≡ k = omega arith in subst (λ n. fault n ≡ None) q (sym fault_is ∙ g.clear)) (cases_lt k m);
          small = λ k h. ⊎_elim (λ a. u.small k a) (λ a. let q : m ≡ k = omega arith in subst (λ n. StaysSmall (scale_of t) (s n) (at n es)) q (subst (λ z. StaysSmall (scale_of t) z (at m es)) u.state_is (subst (λ n. StaysSmall n (state_of st) (at m es)) r.task.scale g.small))) (cases_lt k m);
          bounded = omega arith;
        }

  last_below : (n : ℕ) (xs : List Placed) → ((e : Placed) → In e xs → e.moment < n) → last_moment xs ≤ n - 1
  last_below n [] f = omega arith
  last_below n (e ∷ xs) f = let a = f e (inl refl) in let b = last_below n xs (λ x i. f x (inr i)) in omega arith

  -- after the last moment with an event
  module _ (from : ℕ) (st : Stored) (r : Reached t ps from st) (d : All (λ (e : Placed). e.moment < from) es) where
    done : (e : Placed) → In e es → e.moment < from
    done e i = all_in (λ (x : Placed). x.moment < from) es d e i

    still_after : (k : ℕ) → from ≤ k → (e : Placed) → In e es → e.moment ≢ k
    still_after k a e i q = let w = done e i in absurd (omega arith)

    pub all_clear : (k : ℕ) → fault k ≡ None
    all_clear k = quiet_until (scale_of t) (begin t) ps from r.clear (suc k) (λ j a b. still_after j a) k (omega arith)

    pub all_small_here : (k : ℕ) → StaysSmall (scale_of t) (s k) (at k es)
    all_small_here k = ⊎_elim (λ a. r.small k a) (λ a. small_at_rest (scale_of t) (begin t) ps k (still_after k a)) (cases_lt k from)

    pub last_is : s (suc (last_moment es)) ≡ state_of st
    last_is = same_until (scale_of t) (begin t) ps from (suc (last_moment es)) r.bounded (λ k a b. still_after k a) ∙ sym r.state_is

    pub last_tick : from - 1 ≡ last_moment es
    last_tick = let a = last_below from es done in let b = r.bounded in omega (arith, a, b)
