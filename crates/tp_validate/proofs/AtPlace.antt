-- One more step of a list that is gone through.
use Rattle.std.proofs.Common.{◌≡◌, ℕ, ◌+◌, ◌<◌, List, [], ◌∷◌, ◌++◌, length, get_or, drop, drop-cons, add-one, Option, Some, None, option_map, sym, ap, ◌∙◌, append_assoc}
use Rattle.std.specs.List.{slice_get}
use Rattle.std.specs.Option.{option_to_list}
use Rattle.tp_task.specs.declared.events.Body.{Body}
use Rattle.tp_task.specs.Valid.{Planned}
use Rattle.tp_happen.specs.tp_plan_text.declared.plans.Step.{Step}
use Rattle.tp_validate.specs.OfTask.{step_of, planned}

module _ (bodies : List Body) (steps : List Step) (i : ℕ) (d : Step) (l : i < length steps) where
  abbrev found : Option Planned
  found = option_map (step_of (get_or steps i d)) (slice_get bodies (get_or steps i d).action.0)

  unrolled : planned bodies (drop i steps) ≡ option_to_list found ++ planned bodies (drop (i + 1) steps)
  unrolled = ap (planned bodies) (drop-cons steps i d l) ∙ ap (λ k. option_to_list found ++ planned bodies (drop k steps)) (sym (add-one i))

  pub with_one : (v w all : List Planned) (p : Planned) → Some p ≡ found → w ≡ v ++ p ∷ [] → v ++ planned bodies (drop i steps) ≡ all → w ++ planned bodies (drop (i + 1) steps) ≡ all
  with_one v w all p f e h =
      ap (λ x. x ++ planned bodies (drop (i + 1) steps)) e
      ∙ (append_assoc v (p ∷ []) (planned bodies (drop (i + 1) steps))
      ∙ (ap (λ o. v ++ (option_to_list o ++ planned bodies (drop (i + 1) steps))) f
      ∙ (ap (λ x. v ++ x) (sym unrolled) ∙ h)))

  pub with_none : (v all : List Planned) → None ≡ found → v ++ planned bodies (drop i steps) ≡ all → v ++ planned bodies (drop (i + 1) steps) ≡ all
  with_none v all f h =
      ap (λ o. v ++ (option_to_list o ++ planned bodies (drop (i + 1) steps))) f ∙ (ap (λ x. v ++ x) (sym unrolled) ∙ h)

-- what a step does, by the body that is found
pub found_body : {R : Type 0} (now : R → Body) (o : Option R) (b : R) (s : Step) (p : Planned) (found : Option Body) → p ≡ step_of s (now b) → o ≡ Some b → option_map now o ≡ found → Some p ≡ option_map (step_of s) found
found_body now o b s p there is some same = ap Some is ∙ ap (option_map (step_of s)) (ap (option_map now) (sym some) ∙ same)

pub no_body : {R : Type 0} (now : R → Body) (o : Option R) (s : Step) (found : Option Body) → o ≡ None → option_map now o ≡ found → None ≡ option_map (step_of s) found
no_body now o s there none same = ap (option_map (step_of s)) (ap (option_map now) (sym none) ∙ same)
