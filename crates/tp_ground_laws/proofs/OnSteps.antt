-- The plans of a task, by what its ground actions do.
use Rattle.std.proofs.Common.{◌≡◌, ℕ, zero, suc, Bool, true, false, ◌&&◌, ◌||◌, ◌==◌, nat_lt, List, [], ◌∷◌, ◌++◌, map, length, slice_get, slice_index_or, Option, Some, None, ◌↔◌, inl, inr, refl, sym, ap, ap₂, ◌∙◌, subst}
use Rattle.std.specs.List.{AllByRecursion, IsDistinct, list_all}
use Rattle.std.specs.Option.{option_map, option_to_list}
use Rattle.std.proofs.lemmas.List.{map-append, length-map}
use Rattle.tp_text.specs.declared.number.Scale.{Scale}
use Rattle.tp_text.specs.Scales.{scale_ticks}
use Rattle.tp_syntax_ast.specs.Actions as actions
use Rattle.tp_syntax_ast.specs.Actions.{Action}
use Rattle.tp_syntax_ast.specs.Domains.{Domain}
use Rattle.tp_syntax_ast.specs.Problems as problems
use Rattle.tp_syntax_ast.specs.Problems.{Problem, Initial}
use Rattle.tp_syntax_ast.specs.Symbols.{Name}
use Rattle.tp_syntax_ast.specs.declared.words.TimeSpecifier.TheVariants.{AtStart, AtEnd}
use Rattle.tp_bounds.specs.RunLimits.{RunLimits}
use Rattle.tp_task.specs.declared.events.Body.{Body}
use Rattle.tp_task.specs.declared.events.Body.TheVariants.{Instant, Durative}
use Rattle.tp_task.specs.declared.task.Task.{Task}
use Rattle.tp_task.specs.Words as tables
use Rattle.tp_task.specs.Words.{Words, same_words, firsts}
use Rattle.tp_task.specs.Tables.{Tables, words_at}
use Rattle.tp_task.specs.Bounds.{In}
use Rattle.tp_task.specs.State.{State}
use Rattle.tp_task.specs.Valid.{IsValid}
use Rattle.tp_happen.specs.tp_plan_text.declared.plans.Step.{Step}
use Rattle.tp_happen.specs.tp_plan_text.TaskWords.{is_durative}
use Rattle.tp_validate.specs.OfTask.{is_step_of, step_of, planned, plan_of, scale_of, begin, IsValidPlan}
use Rattle.tp_ground.specs.Bindings.{Universe, Env, bound, bindings, universe_of}
use Rattle.tp_ground.specs.Written.{GroundCondition, GroundEffect, GroundLimit, GroundHappening, GroundBody, GroundAction, instant, durative, happening, simple_effects_in, simple_effects_at, condition_in, body_in}
use Rattle.tp_ground.specs.ReadBack.{named_condition, named_body}
use Rattle.tp_ground.specs.Initially.{GroundInitial, initial_in, is_initially_true, initial_value, or_else}
use Rattle.tp_ground.specs.Grounding.{ground_action, ground_actions, mentioned, IsTask}
use Rattle.tp_ground.specs.Reached.{Instance, instances, action_of, happenings_of, mentioned_of, IsTaskOf}
use Rattle.tp_ground.proofs.OnFits.{has_words, simple_effects_ok, simple_effects_at_ok, added_ok, deleted_ok, written_ok}
use Rattle.tp_ground.proofs.OnInitially.{with_all_distinct}
use Rattle.tp_ground_laws.proofs.OnLists.{get_map, got_in, map_map, all_append}
use Rattle.tp_ground_laws.proofs.ByWords.{WordState, Acted, parts_of, parts, IsValidByWords}
use Rattle.tp_ground_laws.proofs.OnTables.{in_table}
use Rattle.tp_ground_laws.proofs.OnNamed.{seen}
use Rattle.tp_ground_laws.proofs.OnEffects.{AreDistinct, IsWorded}
use Rattle.tp_ground_laws.proofs.OnRuns.{named_planned, AreWorded, valid_named}

-- ---- steps with what their actions do, by words

abbrev pub acted : Step → GroundBody → Acted
acted s b = record { moment = s.tick; duration = s.duration; body = b }

abbrev pub acts_of : List GroundBody → List Step → List Acted
acts_of bs [] = []
acts_of bs (s ∷ ss) = option_to_list (option_map (acted s) (slice_get bs s.action.0)) ++ acts_of bs ss

module _ (t : Tables) (bodies : List Body) where
  plan_named : (ms : List Step) → map (named_planned t) (planned bodies ms) ≡ acts_of (map (named_body t) bodies) ms
  plan_named [] = refl
  plan_named (s ∷ ss) =
      one (slice_get bodies s.action.0) (plan_named ss)
      ∙ ap (λ o. option_to_list (option_map (acted s) o) ++ acts_of (map (named_body t) bodies) ss) (sym (get_map (named_body t) bodies s.action.0))
    where
      one : (o : Option Body) → map (named_planned t) (planned bodies ss) ≡ acts_of (map (named_body t) bodies) ss → map (named_planned t) (option_to_list (option_map (step_of s) o) ++ planned bodies ss) ≡ option_to_list (option_map (acted s) (option_map (named_body t) o)) ++ acts_of (map (named_body t) bodies) ss
      one None h = h
      one (Some b) h = ap (λ (ps : List Acted). acted s (named_body t b) ∷ ps) h

-- what holds of all that happens at the actions' events holds of a plan's events
module _ (P : GroundHappening → Type 0) (bs : List GroundBody) (all : (b : GroundBody) → In b bs → AllByRecursion P (happenings_of b)) where
  of_body : (p : Acted) (b : GroundBody) → AllByRecursion P (happenings_of b) → AllByRecursion (λ e. P e.timed.happening) (parts_of p b)
  of_body p (instant h) a = (a.0, tt)
  of_body p (durative start end invariant) a = (a.0, (a.1.0, tt))

  pub all_parts : (ms : List Step) → AllByRecursion (λ e. P e.timed.happening) (parts (acts_of bs ms))
  all_parts [] = tt
  all_parts (s ∷ ss) = one (slice_get bs s.action.0) refl (all_parts ss)
    where
      one : (o : Option GroundBody) → slice_get bs s.action.0 ≡ o → AllByRecursion (λ e. P e.timed.happening) (parts (acts_of bs ss)) → AllByRecursion (λ e. P e.timed.happening) (parts (option_to_list (option_map (acted s) o) ++ acts_of bs ss))
      one None e h = h
      one (Some b) e h = all_append (λ e. P e.timed.happening) (parts_of (acted s b) b) (parts (acts_of bs ss)) (of_body (acted s b) b (all b (got_in bs s.action.0 b e))) h

-- ---- what is written out changes only what has words

worded : (c : GroundCondition) (os : List GroundEffect) (ls : List GroundLimit) → list_all has_words os ≡ true → IsWorded (happening c os ls)
worded c os ls h = record { adds = added_ok os h; deletes = deleted_ok os h; writes = written_ok os h }

body_worded : (u : Universe) (env : Env) (b : actions.Body) → AllByRecursion IsWorded (happenings_of (body_in u env b))
body_worded u env (actions.instant c e) = (worded _ (simple_effects_in u env e) [] (simple_effects_ok u env e), tt)
body_worded u env (actions.durative r c e) = (worded _ (simple_effects_at u AtStart env e) _ (simple_effects_at_ok u AtStart env e), (worded _ (simple_effects_at u AtEnd env e) [] (simple_effects_at_ok u AtEnd env e), tt))

abbrev pub bodies_of : Universe → List Instance → List GroundBody
bodies_of u is = map (λ i. (action_of u i).body) is

pub bodies_worded : (u : Universe) (is : List Instance) (b : GroundBody) → In b (bodies_of u is) → AllByRecursion IsWorded (happenings_of b)
bodies_worded u [] b h = absurd h
bodies_worded u (i ∷ is) b (inl e) = subst (λ c. AllByRecursion IsWorded (happenings_of c)) (sym e) (body_worded u (bound i.action.parameters i.objects) i.action.body)
bodies_worded u (i ∷ is) b (inr h) = bodies_worded u is b h

-- ---- the state in which a task begins

abbrev pub initially : List GroundInitial → WordState
initially is = record { is_true = is_initially_true is; number_of = initial_value is }

not_initially : (is : List Initial) → is_initially_true (map initial_in is) [] ≡ false
not_initially [] = refl
not_initially (problems.holds f ∷ is) = not_initially is
not_initially (problems.fails f ∷ is) = not_initially is
not_initially (problems.has_value f n ∷ is) = not_initially is

no_value : (is : List Initial) → initial_value (map initial_in is) [] ≡ None
no_value [] = refl
no_value (problems.holds f ∷ is) = no_value is
no_value (problems.fails f ∷ is) = no_value is
no_value (problems.has_value f n ∷ is) = ap (λ o. or_else o None) (no_value is)

index_map : {A : Type 0} (f : Words → A) (x : A) → f [] ≡ x → (ws : List Words) (i : ℕ) → slice_index_or (map f ws) i x ≡ f (words_at ws i)
index_map f x h [] i = sym h
index_map f x h (w ∷ ws) zero = refl
index_map f x h (w ∷ ws) (suc i) = index_map f x h ws i

-- ---- a task of some ground actions of a problem, with tables that have no words twice

pub record IsTaskFor (scale : Scale) (d : Domain) (p : Problem) (is : List Instance) (t : Task) : Type 0 where
  pub same_scale : t.scale ≡ scale
  pub distinct : AreDistinct t.numbering
  pub names : t.numbering.actions ≡ map (λ i. (action_of (universe_of d p) i).words) is
  pub bodies : map (named_body t.numbering) t.actions.items ≡ bodies_of (universe_of d p) is
  pub goal : named_condition t.numbering t.goal ≡ condition_in (universe_of d p) [] p.goal
  pub initial_atoms : t.initial_atoms.items ≡ map (is_initially_true (map initial_in p.initial)) t.numbering.atoms
  pub initial_numbers : t.initial_numbers.items ≡ map (initial_value (map initial_in p.initial)) t.numbering.fluents
  pub initial_known : (w : Words) → is_initially_true (map initial_in p.initial) w ≡ true → tables.has_words t.numbering.atoms w ≡ true

firsts_distinct : (table ws : List Words) → table ≡ firsts ws → IsDistinct same_words table
unfolding IsDistinct
firsts_distinct table ws e = subst (IsDistinct same_words) (sym e) (with_all_distinct [] ws tt)

pub of_kept : (limits : RunLimits) (scale : Scale) (d : Domain) (p : Problem) (is : List Instance) (t : Task) → IsTaskOf limits scale d p is t → IsTaskFor scale d p is t
of_kept limits scale d p is t h = record {
  same_scale = h.same_scale;
  distinct = record { atoms = firsts_distinct t.numbering.atoms (mentioned_of d p is).atoms h.atoms; fluents = firsts_distinct t.numbering.fluents (mentioned_of d p is).fluents h.fluents };
  names = h.names;
  bodies = h.bodies;
  goal = h.goal;
  initial_atoms = h.initial_atoms;
  initial_numbers = h.initial_numbers;
  initial_known = λ w. in_table w t.numbering.atoms (map initial_in p.initial) _ _ h.atoms;
}

module _ (u : Universe) where
  of_bindings : (a : Action) (bs : List (List Name)) → map (ground_action u a) bs ≡ map (action_of u) (map (λ objects. record { action = a; objects = objects }) bs)
  of_bindings a [] = refl
  of_bindings a (b ∷ bs) = ap (λ (gs : List GroundAction). ground_action u a b ∷ gs) (of_bindings a bs)

  of_instances : (all : List Action) → ground_actions u all ≡ map (action_of u) (instances u all)
  of_instances [] = refl
  of_instances (a ∷ all) =
      ap₂ (λ (gs hs : List GroundAction). gs ++ hs) (of_bindings a (bindings u a.parameters)) (of_instances all)
      ∙ sym (map-append (action_of u) (map (λ objects. record { action = a; objects = objects }) (bindings u a.parameters)) (instances u all))

pub of_all : (limits : RunLimits) (scale : Scale) (d : Domain) (p : Problem) (t : Task) → IsTask limits scale d p t → IsTaskFor scale d p (instances (universe_of d p) d.actions) t
of_all limits scale d p t h =
    let u = universe_of d p in
    let is = instances u d.actions in
    record {
      same_scale = h.same_scale;
      distinct = record { atoms = firsts_distinct t.numbering.atoms (mentioned d p).atoms h.atoms; fluents = firsts_distinct t.numbering.fluents (mentioned d p).fluents h.fluents };
      names = h.names ∙ ap (map (λ a. a.words)) (of_instances u d.actions) ∙ map_map (action_of u) (λ a. a.words) is;
      bodies = h.bodies ∙ ap (map (λ a. a.body)) (of_instances u d.actions) ∙ map_map (action_of u) (λ a. a.body) is;
      goal = h.goal;
      initial_atoms = h.initial_atoms;
      initial_numbers = h.initial_numbers;
      initial_known = λ w. in_table w t.numbering.atoms (map initial_in p.initial) _ _ h.atoms;
    }

abbrev pub durative_by : Option GroundBody → Bool
durative_by None = false
durative_by (Some (instant h)) = false
durative_by (Some (durative start end invariant)) = true

abbrev pub is_step_by : List GroundBody → Step → Bool
is_step_by bs s = nat_lt s.action.0 (length bs) && (durative_by (slice_get bs s.action.0) || s.duration == 0)

durative_named : (t : Tables) (o : Option Body) → is_durative o ≡ durative_by (option_map (named_body t) o)
durative_named t None = refl
durative_named t (Some (Instant e)) = refl
durative_named t (Some (Durative start end invariant)) = refl

module _ (scale : Scale) (d : Domain) (p : Problem) (is : List Instance) (t : Task) (k : IsTaskFor scale d p is t) where
  abbrev bs : List GroundBody
  bs = bodies_of (universe_of d p) is

  pub begins : begin t ≡ seen t.numbering (initially (map initial_in p.initial))
  begins =
      let atom_is : (a : ℕ) → (begin t).atom a ≡ is_initially_true (map initial_in p.initial) (words_at t.numbering.atoms a) =
      λ a. ap (λ bs. slice_index_or bs a false) k.initial_atoms ∙ index_map (is_initially_true (map initial_in p.initial)) false (not_initially p.initial) t.numbering.atoms a in
      let number_is : (f : ℕ) → (begin t).number f ≡ initial_value (map initial_in p.initial) (words_at t.numbering.fluents f) =
      λ f. ap (λ ns. slice_index_or ns f None) k.initial_numbers ∙ index_map (initial_value (map initial_in p.initial)) None (no_value p.initial) t.numbering.fluents f in
      λ i. record { atom = λ a. atom_is a i; number = λ f. number_is f i }

  pub steps_named : (ms : List Step) → map (named_planned t.numbering) (plan_of t ms) ≡ acts_of bs ms
  steps_named ms = plan_named t.numbering t.actions.items ms ∙ ap (λ cs. acts_of cs ms) k.bodies

  -- a plan is valid for the task exactly if it is by words
  pub valid_by_words : (ms : List Step) → IsValidPlan t ms ↔ IsValidByWords (scale_ticks scale) (initially (map initial_in p.initial)) (condition_in (universe_of d p) [] p.goal) (acts_of bs ms)
  valid_by_words ms =
      let s = initially (map initial_in p.initial) in
      let w : AreWorded (parts (map (named_planned t.numbering) (plan_of t ms))) = subst (λ ps. AreWorded (parts ps)) (sym (steps_named ms)) (all_parts IsWorded bs (bodies_worded (universe_of d p) is) ms) in
      subst (λ (x : Scale). IsValidPlan t ms ↔ IsValidByWords (scale_ticks x) s (condition_in (universe_of d p) [] p.goal) (acts_of bs ms)) k.same_scale
      (subst (λ (ps : List Acted). IsValidPlan t ms ↔ IsValidByWords (scale_of t) s (condition_in (universe_of d p) [] p.goal) ps) (steps_named ms)
      (subst (λ (g : GroundCondition). IsValidPlan t ms ↔ IsValidByWords (scale_of t) s g (map (named_planned t.numbering) (plan_of t ms))) k.goal
      (subst (λ (z : State). IsValid (scale_of t) z t.goal (plan_of t ms) ↔ IsValidByWords (scale_of t) s (named_condition t.numbering t.goal) (map (named_planned t.numbering) (plan_of t ms))) (sym begins)
      (valid_named t.numbering k.distinct (scale_of t) s t.goal (plan_of t ms) w))))

  -- a step's action lasts exactly if it does by what the actions do
  pub durative_of : (s : Step) → is_durative (slice_get t.actions.items s.action.0) ≡ durative_by (slice_get bs s.action.0)
  durative_of s = durative_named t.numbering (slice_get t.actions.items s.action.0) ∙ ap durative_by (sym (get_map (named_body t.numbering) t.actions.items s.action.0) ∙ ap (λ cs. slice_get cs s.action.0) k.bodies)

  -- a step is the task's exactly if it is by what the actions do
  pub step_by_words : (s : Step) → is_step_of t s ≡ is_step_by bs s
  step_by_words s =
      ap₂ (λ n b. nat_lt s.action.0 n && (b || s.duration == 0))
      (sym (length-map t.actions.items (named_body t.numbering)) ∙ ap length k.bodies)
      (durative_of s)
