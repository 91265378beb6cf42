-- The plans of a task that has each action that a valid plan may have.
use Rattle.std.proofs.Common.{◌≡◌, Bool, true, List, [], ◌∷◌, ◌++◌, map, Option, Some, None, slice_get, inl, inr, refl, sym, ◌∙◌, subst}
use Rattle.std.specs.List.{AllByRecursion, list_all}
use Rattle.std.specs.Option.{option_map, option_to_list}
use Rattle.std.proofs.lemmas.Bool.{and_parts}
use Rattle.tp_text.specs.Scales.{scale_ticks}
use Rattle.tp_text.specs.declared.number.Scale.{Scale}
use Rattle.tp_syntax_ast.specs.Domains.{Domain}
use Rattle.tp_syntax_ast.specs.Problems.{Problem}
use Rattle.tp_task.specs.Bounds.{In}
use Rattle.tp_task.proofs.Lists.{all_from}
use Rattle.tp_task.specs.declared.task.Task.{Task}
use Rattle.tp_happen.specs.tp_plan_text.declared.plans.Step.{Step}
use Rattle.tp_validate.specs.OfTask.{IsOfTask, IsValidPlan, is_step_of}
use Rattle.tp_ground.specs.Bindings.{Universe, universe_of}
use Rattle.tp_ground.specs.Written.{GroundBody, condition_in}
use Rattle.tp_ground.specs.Initially.{initial_in}
use Rattle.tp_ground.specs.Reached.{Instance, instances, action_of, happenings_of, all_happenings}
use Rattle.tp_ground_laws.specs.SamePlans.{HaveSamePlans, some_of}
use Rattle.tp_ground_laws.specs.WholeTasks.{may_hold, is_whole, IsWithin, HasUseful}
use Rattle.tp_ground_laws.proofs.OnLists.{got_in, of_filter, in_filter, in_flat_map}
use Rattle.tp_ground_laws.proofs.ByWords.{Acted}
use Rattle.tp_ground_laws.proofs.OnSteps.{acted, acts_of, all_parts, bodies_of, IsTaskFor, valid_by_words, step_by_words}
use Rattle.tp_ground_laws.proofs.OnSame.{AreTold, IsFound, at_step, body_got, all_moved, in_wider, same_body, same_texts}
use Rattle.tp_ground_laws.proofs.OnJudged.{same_validity}
use Rattle.tp_ground_laws.proofs.OnReached.{stays}
use Rattle.tp_ground_laws.proofs.OnNeeded.{may_hold_closed, whole_may_happen}
use Rattle.tp_ground_laws.proofs.OnWhole.{all_whole, whole_within}

-- what holds of each body holds of each step's
for_acts : (Q : GroundBody → Type 0) (bs : List GroundBody) → ((b : GroundBody) → In b bs → Q b) → (ms : List Step) → AllByRecursion (λ a. Q a.body) (acts_of bs ms)
for_acts Q bs h [] = tt
for_acts Q bs h (s ∷ ss) = one (slice_get bs s.action.0) refl (for_acts Q bs h ss)
  where
    one : (o : Option GroundBody) → slice_get bs s.action.0 ≡ o → AllByRecursion (λ a. Q a.body) (acts_of bs ss) → AllByRecursion (λ a. Q a.body) (option_to_list (option_map (acted s) o) ++ acts_of bs ss)
    one None e k = k
    one (Some b) e k = (h b (got_in bs s.action.0 b e), k)

all_given : {A : Type 0} (P Q : A → Type 0) (xs : List A) → AllByRecursion (λ x. P x → Q x) xs → AllByRecursion P xs → AllByRecursion Q xs
all_given P Q [] h k = tt
all_given P Q (x ∷ xs) h k = (h.0 k.0, all_given P Q xs h.1 k.1)

all_both : {A : Type 0} (P Q : A → Type 0) (xs : List A) → AllByRecursion P xs → AllByRecursion Q xs → AllByRecursion (λ x. P x × Q x) xs
all_both P Q [] h k = tt
all_both P Q (x ∷ xs) h k = ((h.0, k.0), all_both P Q xs h.1 k.1)

module _ (scale : Scale) (d : Domain) (p : Problem) where
  abbrev u : Universe
  u = universe_of d p

  abbrev whole : List Instance
  whole = instances u d.actions

  abbrev body : Instance → GroundBody
  body i = (action_of u i).body

  bodies_have : (Q : GroundBody → Type 0) (is : List Instance) → ((x : Instance) → In x is → Q (body x)) → (b : GroundBody) → In b (bodies_of u is) → Q b
  bodies_have Q [] h b i = absurd i
  bodies_have Q (x ∷ is) h b (inl e) = subst Q (sym e) (h x (inl refl))
  bodies_have Q (x ∷ is) h b (inr i) = bodies_have Q is (λ y j. h y (inr j)) b i

  module _ (those : Instance → Bool) (w : HasUseful d p those) (t v : Task) (told : AreTold scale d p) (k : IsTaskFor scale d p whole t) (l : IsTaskFor scale d p (some_of d p those) v) where
    abbrev kept : List Instance
    kept = some_of d p those

    of_all : (x : Instance) → In x kept → In x whole
    of_all x h = of_filter those whole x h

    abbrev IsUseful : GroundBody → Type 0
    IsUseful b = (is_whole (may_hold d p) b ≡ true) × (is_whole w.reach b ≡ true)

    useful_of : (ms : List Step) → IsOfTask t ms → IsValidPlan t ms → AllByRecursion (λ a. IsUseful a.body) (acts_of (bodies_of u whole) ms)
    useful_of ms h valid =
        let plan = acts_of (bodies_of u whole) ms in
        let by_words = (valid_by_words scale d p whole t k ms).0 valid in
        let own : (b : GroundBody) → In b (bodies_of u whole) → AllByRecursion (λ h. In h (all_happenings d p)) (happenings_of b) =
        bodies_have (λ b. AllByRecursion (λ h. In h (all_happenings d p)) (happenings_of b)) whole (λ x i. all_from (λ h. In h (all_happenings d p)) (happenings_of (body x)) (λ h j. in_flat_map (λ (z : Instance). happenings_of (body z)) whole x h i j)) in
        let may : AllByRecursion (λ (a : Acted). is_whole (may_hold d p) a.body ≡ true) plan =
        all_whole (scale_ticks scale) (map initial_in p.initial) (condition_in u [] p.goal) plan by_words (may_hold d p)
        (stays (scale_ticks scale) (map initial_in p.initial) (condition_in u [] p.goal) plan by_words (all_happenings d p) (all_parts (λ h. In h (all_happenings d p)) (bodies_of u whole) own ms) (may_hold d p) (may_hold_closed d p)) in
        let within : AllByRecursion (λ (a : Acted). IsWithin w.reach a.body) plan =
        all_given (λ (a : Acted). is_whole (may_hold d p) a.body ≡ true) (λ (a : Acted). IsWithin w.reach a.body) plan
        (for_acts (λ b. is_whole (may_hold d p) b ≡ true → IsWithin w.reach b) (bodies_of u whole) (bodies_have (λ b. is_whole (may_hold d p) b ≡ true → IsWithin w.reach b) whole (λ x i m. w.within x i (whole_may_happen d p x m))) ms) may in
        all_both (λ (a : Acted). is_whole (may_hold d p) a.body ≡ true) (λ (a : Acted). is_whole w.reach a.body ≡ true) plan may
        (whole_within (scale_ticks scale) (map initial_in p.initial) (condition_in u [] p.goal) plan by_words w.reach w.initial within)

    found_in_kept : (ms : List Step) → IsOfTask t ms → AllByRecursion (λ a. IsUseful a.body) (acts_of (bodies_of u whole) ms) → AllByRecursion (IsFound whole kept) ms
    found_in_kept [] h a = tt
    found_in_kept (m ∷ ms) h a =
        let q = and_parts (is_step_of t m) (list_all (is_step_of t) ms) h in
        let (x, at_m) = at_step scale d p whole m (sym (step_by_words scale d p whole t k m) ∙ q.0) in
        let b : AllByRecursion (λ a. IsUseful a.body) (acted m (body x) ∷ acts_of (bodies_of u whole) ms) =
        subst (λ o. AllByRecursion (λ a. IsUseful a.body) (option_to_list (option_map (acted m) o) ++ acts_of (bodies_of u whole) ms)) (body_got scale d p whole m.action.0 x at_m) a in
        let own = got_in whole m.action.0 x at_m in
        (record { instance = x; at = at_m; is_in = in_filter those whole x own (w.useful x own (whole_may_happen d p x b.0.0) b.0.1) }, found_in_kept ms q.1 b.1)

    pub same_plans : HaveSamePlans t v
    same_plans = record {
      same = λ ms ns h g e. same_validity scale d p told whole kept (λ x i. i) of_all t v k l ms ns h g e;
      kept = λ ms h valid. all_moved scale d p whole kept t v k l ms h (found_in_kept ms h (useful_of ms h valid));
      wide = in_wider scale d p whole kept t v of_all k l;
      lasting = same_body scale d p told whole kept (λ x i. i) of_all t v k l;
      told = same_texts scale d p told whole kept (λ x i. i) of_all t v k l;
    }
