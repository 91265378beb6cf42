-- The bounds of a plan in force in a network that is new but for lags: under which identifiers, and a schedule of them all.
use Rattle.std.proofs.Common.{◌≡◌, ◌≢◌, ℕ, suc, ◌+◌, ◌<◌, ◌≤◌, List, [], ◌∷◌, length, Some, None, inl, inr, refl, sym, ap, subst, ◌∙◌, arith}
use Rattle.std.proofs.lemmas.Bool.{cases_eq}
use Rattle.std.specs.Ordering.{nat_cmp}
use Rattle.std.specs.FinMap.{FinMap, get, get-empty}
use Rattle.tp_bounds.specs.declared.Bound.{Bound}
use Rattle.tp_bounds.specs.Setting.{Setting, event_count}
use Rattle.tp_bounds.specs.Schedule.{IsSchedule}
use Rattle.tp_bounds.specs.Changes.{with_bound}
use Rattle.tp_bounds.specs.OwnBounds.{with_bounds, IsWithin, MeetsEach}
use Rattle.tp_bounds.proofs.Numbering.{AllMet, all_in_force, others_stay}
use Rattle.tp_net.proofs.Laws.{get_inserted, get_insert_other}
use Rattle.tp_exec_machine.specs.Machine.{IsFresh}

-- ---- under which identifiers

pub unused_from : (s : Setting) (id : ℕ) (xs : List Bound) → ((q : ℕ) → id ≤ q → get s.bounds q ≡ None) → (q : ℕ) → id + length xs ≤ q → get (with_bounds s id xs).bounds q ≡ None
unused_from s id [] h q le = h q (omega arith)
unused_from s id (x ∷ xs) h q le =
    unused_from (with_bound s id x) (suc id) xs (λ p l. get_insert_other s.bounds id p x (λ same. absurd (let f : ⊥ = omega arith in f)) ∙ h p (omega arith)) q (omega arith)

pub stays_before : (s : Setting) (id : ℕ) (xs : List Bound) (q : ℕ) → q < id → get (with_bounds s id xs).bounds q ≡ get s.bounds q
stays_before s id [] q lt = refl
stays_before s id (x ∷ xs) q lt =
    stays_before (with_bound s id x) (suc id) xs q (omega arith) ∙ get_insert_other s.bounds id q x (λ same. absurd (let f : ⊥ = omega arith in f))

pub all_there : (s : Setting) (id : ℕ) (xs : List Bound) (q : ℕ) → id ≤ q → q < id + length xs → get (with_bounds s id xs).bounds q ≢ None
all_there s id [] q le lt none = omega arith
all_there s id (x ∷ xs) q le lt none =
    elim (cases_eq q id) [
      | inl same ↦
          let f : Some x ≡ None = sym (get_inserted s.bounds id x) ∙ (sym (stays_before (with_bound s id x) (suc id) xs id (omega arith)) ∙ (ap (get (with_bounds (with_bound s id x) (suc id) xs).bounds) (sym same) ∙ none)) in
          let g : ⊥ = cc in
          g
      | inr ne ↦ all_there (with_bound s id x) (suc id) xs q (omega arith) (omega arith) none
    ]

module _ (s : Setting) (fresh : IsFresh s) where
  pub none_yet : (q : ℕ) → get s.bounds q ≡ None
  none_yet q = ap (λ m. get m q) fresh.no_bounds ∙ get-empty nat_cmp q

  pub unused_behind : (xs : List Bound) (q : ℕ) → length xs ≤ q → get (with_bounds s 0 xs).bounds q ≡ None
  unused_behind xs q le = unused_from s 0 xs (λ p l. none_yet p) q (omega arith)

  pub own_there : (xs : List Bound) (q : ℕ) → q < length xs → get (with_bounds s 0 xs).bounds q ≢ None
  own_there xs q lt = all_there s 0 xs q (omega arith) (omega arith)

  -- ---- a schedule of them all

  pub schedule_by : (t : ℕ → ℕ) (m : FinMap nat_cmp Bound) → IsWithin (event_count s) s.horizon t → AllMet t m → IsSchedule (record s { bounds = m }) t
  schedule_by t m w h =
      record {
        past = λ e k f. absurd (let x : None ≡ Some k = sym (fresh.no_past e) ∙ f in (let g : ⊥ = cc in g));
        floor = λ e l f. omega (arith, fresh.start);
        end = λ e l f. w e l;
        in_force = h;
        proposed = λ b f. absurd (let x : None ≡ Some b = sym fresh.asks_nothing ∙ f in (let g : ⊥ = cc in g));
      }

  pub schedule_with : (t : ℕ → ℕ) (xs : List Bound) → IsWithin (event_count s) s.horizon t → MeetsEach t xs → IsSchedule (with_bounds s 0 xs) t
  schedule_with t xs w h =
      subst (λ r. IsSchedule r t) (sym (others_stay s 0 xs))
      (schedule_by t _ w (all_in_force t s 0 xs (λ id b g. absurd (let x : None ≡ Some b = sym (none_yet id) ∙ g in (let f : ⊥ = cc in f))) h))

-- the events stay
pub same_events : (s : Setting) (id : ℕ) (xs : List Bound) → event_count (with_bounds s id xs) ≡ event_count s
same_events s id xs = ap event_count (others_stay s id xs)
