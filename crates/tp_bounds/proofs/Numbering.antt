-- Bounds that come into force under identifiers from 0 on are the bounds in force.
use Rattle.std.proofs.Common.{◌≡◌, ◌≢◌, ℕ, suc, ◌<◌, ◌⊎◌, inl, inr, Bool, true, false, cond, List, [], ◌∷◌, Option, Some, refl, sym, subst, ◌∙◌, arith, rules}
use Rattle.std.specs.declared.cmp.Ordering.{Ordering}
use Rattle.std.specs.Ordering.{nat_cmp, eq_by_cmp, is_eq}
use Rattle.std.specs.declared.cmp.Ordering.TheVariants.{Less, Equal, Greater}
use Rattle.std.specs.Cmp.{nat_cmp_total}
use Rattle.std.specs.FinMap.{FinMap, get, insert, get-insert, nat_cmp-IsAntisymmetric}
use Rattle.tp_bounds.specs.declared.Bound.{Bound}
use Rattle.tp_bounds.specs.Setting.{Setting}
use Rattle.tp_bounds.specs.Schedule.{Meets}
use Rattle.tp_bounds.specs.Changes.{with_bound}
use Rattle.tp_bounds.specs.OwnBounds.{with_bounds, MeetsEach}

equal : (r : Ordering) → is_eq r ≡ true → r ≡ Equal
equal Less h = absurd (let f : ⊥ = cc in f)
equal Equal h = refl
equal Greater h = absurd (let f : ⊥ = cc in f)

same_key : (q k : ℕ) → eq_by_cmp nat_cmp q k ≡ true → q ≡ k
same_key q k h = nat_cmp-IsAntisymmetric q k (equal (nat_cmp q k) h)

from_cond_some : {X : Type 0} (b : Bool) (x y : X) (o : Option X) → cond b (Some x) o ≡ Some y → ((b ≡ true) × (x ≡ y)) ⊎ (o ≡ Some y)
from_cond_some true x y o h = inl (refl, cc)
from_cond_some false x y o h = inr h

inserted : {X : Type 0} (m : FinMap nat_cmp X) (id q : ℕ) (b c : X) → get (insert m id b) q ≡ Some c → ((q ≡ id) × (b ≡ c)) ⊎ (get m q ≡ Some c)
inserted m id q b c h =
    elim (from_cond_some (eq_by_cmp nat_cmp q id) b c (get m q) (sym (get-insert nat_cmp_total m id b q) ∙ h)) [
      | inl p ↦ inl (same_key q id p.0, p.1)
      | inr p ↦ inr p
    ]

cond_true : {X : Type 0} (b : Bool) (x y : X) → b ≡ true → cond b x y ≡ x
cond_true b x y h = rw h refl

cond_false : {X : Type 0} (b : Bool) (x y : X) → b ≡ false → cond b x y ≡ y
cond_false b x y h = rw h refl

key_itself : (q : ℕ) → eq_by_cmp nat_cmp q q ≡ true
key_itself q = search (rules, nat_cmp_total)

not_true : (b : Bool) → (b ≡ true → ⊥) → b ≡ false
not_true true h = absurd (h refl)
not_true false h = refl

get_inserted : {X : Type 0} (m : FinMap nat_cmp X) (id : ℕ) (b : X) → get (insert m id b) id ≡ Some b
get_inserted m id b = get-insert nat_cmp_total m id b id ∙ cond_true (eq_by_cmp nat_cmp id id) (Some b) (get m id) (key_itself id)

get_insert_other : {X : Type 0} (m : FinMap nat_cmp X) (id q : ℕ) (b : X) → q ≢ id → get (insert m id b) q ≡ get m q
get_insert_other m id q b ne = get-insert nat_cmp_total m id b q ∙ cond_false (eq_by_cmp nat_cmp q id) (Some b) (get m q) (not_true (eq_by_cmp nat_cmp q id) (λ h. ne (same_key q id h)))

-- each bound that a map holds is met
abbrev pub AllMet : (ℕ → ℕ) → FinMap nat_cmp Bound → Type 0
AllMet t m = (id : ℕ) (b : Bound) → get m id ≡ Some b → Meets t b

-- the identifiers in force are below one
abbrev pub AreBelow : Setting → ℕ → Type 0
AreBelow s next = (id : ℕ) (b : Bound) → get s.bounds id ≡ Some b → id < next

module _ (t : ℕ → ℕ) where
  below_more : (s : Setting) (next : ℕ) (b : Bound) → AreBelow s next → AreBelow (with_bound s next b) (suc next)
  below_more s next b h id c g = elim (inserted s.bounds next id b c g) [ inl p ↦ omega (arith, p.0) | inr p ↦ omega (arith, h id c p) ]

  pub all_in_force : (s : Setting) (next : ℕ) (bs : List Bound) → AllMet t s.bounds → MeetsEach t bs → AllMet t (with_bounds s next bs).bounds
  all_in_force s next [] h m = h
  all_in_force s next (b ∷ bs) h m =
      all_in_force (with_bound s next b) (suc next) bs (λ id c g. elim (inserted s.bounds next id b c g) [ inl p ↦ subst (Meets t) p.1 m.0 | inr p ↦ h id c p ]) m.1

  pub in_force_before : (s : Setting) (next : ℕ) (bs : List Bound) → AreBelow s next → AllMet t (with_bounds s next bs).bounds → AllMet t s.bounds
  in_force_before s next [] w h = λ id c g. h id c g
  in_force_before s next (b ∷ bs) w h = λ id c g.
      let lt : id < next = w id c g in
      let ne : id ≢ next = omega arith in
      in_force_before (with_bound s next b) (suc next) bs (below_more s next b w) h id c (get_insert_other s.bounds next id b ne ∙ g)

  pub in_force_each : (s : Setting) (next : ℕ) (bs : List Bound) → AreBelow s next → AllMet t (with_bounds s next bs).bounds → MeetsEach t bs
  in_force_each s next [] w h = tt
  in_force_each s next (b ∷ bs) w h =
      (in_force_before (with_bound s next b) (suc next) bs (below_more s next b w) h next b (get_inserted s.bounds next b), in_force_each (with_bound s next b) (suc next) bs (below_more s next b w) h)

-- the other fields stay
pub others_stay : (s : Setting) (next : ℕ) (bs : List Bound) → (with_bounds s next bs) ≡ record s { bounds = (with_bounds s next bs).bounds }
others_stay s next [] = refl
others_stay s next (b ∷ bs) = others_stay (with_bound s next b) (suc next) bs
