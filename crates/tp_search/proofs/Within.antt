-- Steps that are tested to be a plan of a task are one.
use Rattle.std.proofs.Common.{◌≡◌, ℕ, ◌&&◌, Bool, true, List, [], ◌∷◌, length, nat_le, refl, sym, subst}
use Rattle.std.specs.Prelude.{Result, Ok, Err, Option, Some, None, IfOk, IfSome}
use Rattle.std.specs.List.{list_all}
use Rattle.std.proofs.lemmas.Bool.{and_parts, and_from, leb-true}
use Rattle.tp_task.specs.declared.task.Task.{Task}
use Rattle.tp_happen.specs.tp_plan_text.declared.plans.Step.{Step}
use Rattle.tp_happen.specs.tp_plan_text.Steps.{IsPlan, ends_in_time}
use Rattle.tp_validate.specs.OfTask.{IsOfTask, IsValidPlan, is_step_of}
use Rattle.tp_validate.specs.Validated.{Validated}
use Rattle.tp_search.specs.Plans.{EndsBy, ends_by, is_step_within, is_plan_within}

each : (p q : Step → Bool) → ((s : Step) → p s ≡ true → q s ≡ true) → (steps : List Step) → list_all p steps ≡ true → list_all q steps ≡ true
each p q h [] e = refl
each p q h (s ∷ steps) e = let r = and_parts (p s) (list_all p steps) e in and_from (q s) (list_all q steps) (h s r.0) (each p q h steps r.1)

module _ (t : Task) (horizon : ℕ) (steps : List Step) (h : is_plan_within t horizon steps ≡ true) where
  all_are : list_all (is_step_within t horizon) steps ≡ true
  all_are = (and_parts (nat_le (length steps) 512) (list_all (is_step_within t horizon) steps) h).1

  pub is_plan : IsPlan steps
  is_plan = record {
    few = leb-true (length steps) 512 ((and_parts (nat_le (length steps) 512) (list_all (is_step_within t horizon) steps) h).0);
    ends = each (is_step_within t horizon) ends_in_time (λ s e. (and_parts (ends_by horizon s) (ends_by 1000000000 s) ((and_parts (is_step_of t s) (ends_by horizon s && ends_by 1000000000 s) e).1)).1) steps all_are;
  }

  pub is_of_task : IsOfTask t steps
  is_of_task = each (is_step_within t horizon) (is_step_of t) (λ s e. (and_parts (is_step_of t s) (ends_by horizon s && ends_by 1000000000 s) e).0) steps all_are

  pub ends : EndsBy horizon steps
  ends = each (is_step_within t horizon) (ends_by horizon) (λ s e. (and_parts (ends_by horizon s) (ends_by 1000000000 s) ((and_parts (is_step_of t s) (ends_by horizon s && ends_by 1000000000 s) e).1)).0) steps all_are

  pub certifies : (v : Validated) → (v.task ≡ t) × (v.steps ≡ steps) × IsValidPlan t steps → (v.task ≡ t) × EndsBy horizon v.steps × IsValidPlan t v.steps
  certifies v (e, q, valid) = (e, subst (EndsBy horizon) (sym q) ends, subst (IsValidPlan t) (sym q) valid)

-- what is known of what was found
pub each_found : {E X : Type 0} (P Q : X → Type 0) → ((x : X) → P x → Q x) → (r : Result (Option X) E) → IfOk r (λ o. IfSome o P) → IfOk r (λ o. IfSome o Q)
each_found P Q f (Ok (Some x)) h = f x h
each_found P Q f (Ok None) h = h
each_found P Q f (Err e) h = h
