-- The schedules of bounds under identifiers from 0 on.
use Rattle.std.proofs.Common.{◌≡◌, ℕ, List, length, replicate, get_or, Option, Some, None, sym, subst, ◌∙◌, arith}
use Rattle.std.proofs.lemmas.List.{length-replicate}
use Rattle.std.proofs.lemmas.Grind.{common_steps}
use Rattle.std.specs.Ordering.{nat_cmp}
use Rattle.std.specs.FinMap.{FinMap, get-empty}
use Rattle.tp_bounds.specs.declared.Bound.{Bound}
use Rattle.tp_bounds.specs.Setting.{Setting}
use Rattle.tp_bounds.specs.Schedule.{IsSchedule}
use Rattle.tp_bounds.specs.Changes.{fresh}
use Rattle.tp_bounds.specs.OwnBounds.{MeetsEach, IsWithin, with_bounds, setting_of}
use Rattle.tp_bounds.proofs.Numbering.{AllMet, all_in_force, in_force_each, others_stay}

count : (n : ℕ) → length (replicate {A = Option ℕ} n None) ≡ n
count n = length-replicate n None

none_fixed : (n e : ℕ) → get_or (replicate {A = Option ℕ} n None) e None ≡ None
none_fixed n e = grind (arith, common_steps)

module _ (n horizon : ℕ) (t : ℕ → ℕ) where
  abbrev with_map : FinMap nat_cmp Bound → Setting
  with_map m = record (fresh n horizon) { bounds = m }

  schedule_of : (m : FinMap nat_cmp Bound) → IsWithin n horizon t → AllMet t m → IsSchedule (with_map m) t
  schedule_of m w h =
      record {
        past = λ e k f. absurd (let x : None ≡ Some k = sym (none_fixed n e) ∙ f in (let g : ⊥ = cc in g));
        floor = λ e l f. omega arith;
        end = λ e l f. w e (omega (arith, l, count n));
        in_force = h;
        proposed = λ b f. absurd (let g : ⊥ = cc in g);
      }

  of_schedule : (m : FinMap nat_cmp Bound) → IsSchedule (with_map m) t → IsWithin n horizon t × AllMet t m
  of_schedule m s = (λ e l. s.end e (omega (arith, l, count n)) (none_fixed n e), s.in_force)

  none_in : (bs : List Bound) → AllMet t (with_bounds (fresh n horizon) 0 bs).bounds → MeetsEach t bs
  none_in bs h = in_force_each t (fresh n horizon) 0 bs (λ id b g. absurd (let x : None ≡ Some b = sym (get-empty nat_cmp id) ∙ g in (let f : ⊥ = cc in f))) h

  all_in : (bs : List Bound) → MeetsEach t bs → AllMet t (with_bounds (fresh n horizon) 0 bs).bounds
  all_in bs h = all_in_force t (fresh n horizon) 0 bs (λ id b g. absurd (let x : None ≡ Some b = sym (get-empty nat_cmp id) ∙ g in (let f : ⊥ = cc in f))) h

  pub is_schedule : (bs : List Bound) → IsWithin n horizon t → MeetsEach t bs → IsSchedule (setting_of n horizon bs) t
  is_schedule bs w h = subst (λ s. IsSchedule s t) (sym (others_stay (fresh n horizon) 0 bs)) (schedule_of _ w (all_in bs h))

  pub schedule_is : (bs : List Bound) → IsSchedule (setting_of n horizon bs) t → IsWithin n horizon t × MeetsEach t bs
  schedule_is bs s =
      let p = of_schedule _ (subst (λ x. IsSchedule x t) (others_stay (fresh n horizon) 0 bs) s) in
      (p.0, none_in bs p.1)
