-- A plan's bounds come into force in any order: what is in force always leaves a schedule, and in
-- the end it is all of them.
use Rattle.std.proofs.Common.{◌≡◌, ◌≢◌, ℕ, zero, suc, ◌+◌, ◌<◌, ◌≤◌, List, [], ◌∷◌, length, slice_get, slice_index_or, get_or, pos, Option, Some, None, inl, inr, refl, sym, ap, subst, ◌∙◌, arith, add-zero}
use Rattle.std.proofs.lemmas.Grind.{not_there}
use Rattle.std.proofs.lemmas.Bool.{cases_eq, cases_lt}
use Rattle.std.proofs.lemmas.Option.{slice_get_past, slice_get_read, slice_get-get_or}
use Rattle.std.specs.Ordering.{nat_cmp}
use Rattle.std.specs.Cmp.{nat_cmp_total}
use Rattle.std.specs.FinMap.{FinMap, get, insert, same_map, nat_cmp-IsAntisymmetric}
use Rattle.tp_bounds.specs.declared.Bound.{Bound}
use Rattle.tp_bounds.specs.declared.Point.TheVariants.{Origin}
use Rattle.tp_bounds.specs.Setting.{Setting, event_count}
use Rattle.tp_bounds.specs.Schedule.{Meets, HasSchedule}
use Rattle.tp_bounds.specs.Changes.{with_bound}
use Rattle.tp_bounds.specs.OwnBounds.{with_bounds, setting_of, IsWithin, MeetsEach}
use Rattle.tp_bounds.proofs.Numbering.{AllMet, others_stay}
use Rattle.tp_bounds.proofs.Schedules.{schedule_is}
use Rattle.tp_net.proofs.Laws.{get_inserted, get_insert_other}
use Rattle.tp_exec_machine.specs.Machine.{IsFresh}
use Rattle.tp_exec_machine.specs.Partly.{IsPartly, Joins}
use Rattle.tp_exec_machine.specs.Orders.{AreAllPlaces}
use Rattle.tp_exec_machine.proofs.Listed.{place_stands}
use Rattle.tp_exec_machine.proofs.OwnBounds.{stays_before, unused_behind, schedule_by}

-- what stands for a bound where there is none
nothing : Bound
nothing = record { from = Origin; to = Origin; w = pos 0 }

-- the bound that is read at a place
pub placed : (xs ys : List Bound) (i : ℕ) (b : Bound) → ys ≡ xs → i < length ys → b ≡ slice_index_or ys i b → slice_get xs i ≡ Some b
placed xs ys i b same lt is = subst (λ zs. slice_get zs i ≡ Some b) same (slice_get_read ys (length ys) i b refl lt is)

-- ---- each leaves a schedule

meets_at : (t : ℕ → ℕ) (xs : List Bound) (q : ℕ) (b : Bound) → MeetsEach t xs → slice_get xs q ≡ Some b → Meets t b
meets_at t [] q b h is = absurd (let f : ⊥ = cc in f)
meets_at t (x ∷ xs) zero b h is = subst (Meets t) (let e : x ≡ b = cc in e) h.0
meets_at t (x ∷ xs) (suc q) b h is = meets_at t xs q b h.1 is

module _ (s : Setting) (fresh : IsFresh s) (r : Setting) (xs : List Bound) (part : IsPartly s r (slice_get xs)) where
  met_with : (t : ℕ → ℕ) (q : ℕ) (b : Bound) → MeetsEach t xs → slice_get xs q ≡ Some b → AllMet t (insert r.bounds q b)
  met_with t q b h is id c g =
      elim (cases_eq id q) [
        | inl same ↦
            let e : Some b ≡ Some c = sym (get_inserted r.bounds q b) ∙ (ap (get (insert r.bounds q b)) (sym same) ∙ g) in
            subst (Meets t) (let f : b ≡ c = cc in f) (meets_at t xs q b h is)
        | inr ne ↦ meets_at t xs id c h (part.each id c (sym (get_insert_other r.bounds q id b ne) ∙ g))
      ]

  with_here : (q : ℕ) (b : Bound) → with_bound r q b ≡ record s { bounds = insert r.bounds q b }
  with_here q b = ap (λ (z : Setting). with_bound z q b) part.others

  pub possible_with : (n horizon q : ℕ) (b : Bound) → event_count s ≡ n → s.horizon ≡ horizon → ∥ HasSchedule (setting_of n horizon xs) ∥₁ → slice_get xs q ≡ Some b → (HasSchedule (with_bound r q b) → ⊥) → ⊥
  possible_with n horizon q b same until p is none =
      not_there p (λ (h : HasSchedule (setting_of n horizon xs)).
      let w = schedule_is n horizon h.0 xs h.1 in
      let within : IsWithin (event_count s) s.horizon h.0 = λ e lt. subst (λ k. h.0 e ≤ k) (sym until) (w.0 e (subst (λ c. e < c) same lt)) in
      none (subst HasSchedule (sym (with_here q b)) (h.0, schedule_by s fresh h.0 (insert r.bounds q b) within (met_with h.0 q b w.1 is))))

-- ---- what has come into force

pub joins_with : (r t : Setting) (of : ℕ → Option Bound) (q : ℕ) (b : Bound) → t ≡ with_bound r q b → of q ≡ Some b → Joins r t of q
joins_with r t of q b is here =
    let there : get t.bounds q ≡ Some b = ap (λ (z : Setting). get z.bounds q) is ∙ get_inserted r.bounds q b in
    let other : (p : ℕ) → p ≢ q → get t.bounds p ≡ get r.bounds p = λ p ne. ap (λ (z : Setting). get z.bounds p) is ∙ get_insert_other r.bounds q p b ne in
    record {
      others = is ∙ ap (λ (z : Setting). record r { bounds = z.bounds }) (sym is);
      each = λ p c g.
          elim (cases_eq p q) [
            | inl same ↦ inr (ap of same ∙ (here ∙ (sym there ∙ (ap (get t.bounds) (sym same) ∙ g))))
            | inr ne ↦ inl (sym (other p ne) ∙ g)
          ];
      stays = λ p h none.
          elim (cases_eq p q) [
            | inl same ↦ let f : Some b ≡ None = sym there ∙ (ap (get t.bounds) (sym same) ∙ none) in (let g : ⊥ = cc in g)
            | inr ne ↦ h (sym (other p ne) ∙ none)
          ];
      there = λ some none. let f : Some b ≡ None = sym there ∙ none in (let g : ⊥ = cc in g);
    }

pub joined : (s r t : Setting) (of : ℕ → Option Bound) (q : ℕ) → IsPartly s r of → Joins r t of q → IsPartly s t of
joined s r t of q part j =
    record {
      others = j.others ∙ ap (λ (z : Setting). record z { bounds = t.bounds }) part.others;
      each = λ p b g. elim (j.each p b g) [ inl h ↦ part.each p b h | inr h ↦ h ];
    }

pub none_partly : (s : Setting) (of : ℕ → Option Bound) → ((q : ℕ) → get s.bounds q ≡ None) → IsPartly s s of
none_partly s of free =
    record {
      others = refl;
      each = λ q b g. absurd (let f : None ≡ Some b = sym (free q) ∙ g in (let h : ⊥ = cc in h));
    }

-- those of the first places in a list are in force, and then one more is
pub more_there : (r t : Setting) (xs : List Bound) (order : List ℕ) (i q : ℕ) → ((k : ℕ) → k < i → get r.bounds (get_or order k 0) ≢ None) → q ≡ get_or order i 0 → q < length xs → Joins r t (slice_get xs) q → (k : ℕ) → k < i + 1 → get t.bounds (get_or order k 0) ≢ None
more_there r t xs order i q h is lt j k below =
    elim (cases_eq k i) [
      | inl same ↦ subst (λ p. get t.bounds p ≢ None) (is ∙ sym (ap (λ n. get_or order n 0) same)) (j.there (λ none. let f : Some (get_or xs q nothing) ≡ None = sym (slice_get-get_or xs q nothing lt) ∙ none in (let g : ⊥ = cc in g)))
      | inr ne ↦ j.stays (get_or order k 0) (h k (omega (arith, below, ne)))
    ]

-- where all places of bounds stand in the list, all of them are
pub there_all : (r : Setting) (xs : List Bound) (order : List ℕ) → AreAllPlaces (length xs) order → ((k : ℕ) → k < length order → get r.bounds (get_or order k 0) ≢ None) → (q : ℕ) → q < length xs → get r.bounds q ≢ None
there_all r xs order all h q lt =
    let s = place_stands (length xs) order q all lt in
    subst (λ p. get r.bounds p ≢ None) s.2 (h s.0 s.1)

-- ---- all of them

own_value : (s : Setting) (id : ℕ) (xs : List Bound) (q : ℕ) → q < length xs → get (with_bounds s id xs).bounds (id + q) ≡ slice_get xs q
own_value s id [] q lt = absurd (let f : ⊥ = omega arith in f)
own_value s id (x ∷ xs) zero lt =
    ap (get (with_bounds (with_bound s id x) (suc id) xs).bounds) (add-zero id)
    ∙ (stays_before (with_bound s id x) (suc id) xs id (omega arith) ∙ get_inserted s.bounds id x)
own_value s id (x ∷ xs) (suc q) lt =
    ap (get (with_bounds (with_bound s id x) (suc id) xs).bounds) (let e : id + suc q ≡ suc id + q = omega arith in e)
    ∙ own_value (with_bound s id x) (suc id) xs q (omega arith)

module _ (s r : Setting) (xs : List Bound) (fresh : IsFresh s) (part : IsPartly s r (slice_get xs)) (there : (q : ℕ) → q < length xs → get r.bounds q ≢ None) where
  known : (q : ℕ) (o : Option Bound) → get r.bounds q ≡ o → q < length xs → get r.bounds q ≡ slice_get xs q
  known q None is lt = absurd (there q lt is)
  known q (Some b) is lt = is ∙ sym (part.each q b is)

  unknown : (q : ℕ) (o : Option Bound) → get r.bounds q ≡ o → length xs ≤ q → get r.bounds q ≡ None
  unknown q None is le = is
  unknown q (Some b) is le = absurd (let f : Some b ≡ None = sym (part.each q b is) ∙ slice_get_past xs q le in (let g : ⊥ = cc in g))

  value_of : (q : ℕ) → get r.bounds q ≡ get (with_bounds s 0 xs).bounds q
  value_of q =
      elim (cases_lt q (length xs)) [
        | inl lt ↦ known q (get r.bounds q) refl lt ∙ (sym (own_value s 0 xs q lt) ∙ ap (get (with_bounds s 0 xs).bounds) (let e : 0 + q ≡ q = omega arith in e))
        | inr ge ↦ unknown q (get r.bounds q) refl ge ∙ sym (unused_behind s fresh xs q ge)
      ]

  pub all_of : r ≡ with_bounds s 0 xs
  all_of =
      part.others
      ∙ (ap (λ (m : FinMap nat_cmp Bound). record s { bounds = m }) (same_map nat_cmp_total nat_cmp-IsAntisymmetric r.bounds (with_bounds s 0 xs).bounds value_of)
      ∙ sym (others_stay s 0 xs))
