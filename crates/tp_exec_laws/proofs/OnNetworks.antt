-- Two tasks of one problem have the same network for the same steps.
use Rattle.std.proofs.Common.{◌≡◌, ℕ, List, [], ◌∷◌, map, Some, slice_get, sym, ap, ap₂, ◌∙◌, subst}
use Rattle.std.specs.List.{AllZip, AllByRecursion, list_all}
use Rattle.std.specs.Option.{option_map}
use Rattle.std.proofs.lemmas.Bool.{and_parts}
use Rattle.tp_syntax_ast.specs.Domains.{Domain}
use Rattle.tp_syntax_ast.specs.Problems.{Problem}
use Rattle.tp_bounds.specs.declared.Bound.{Bound}
use Rattle.tp_bounds.specs.OwnBounds.{setting_of}
use Rattle.tp_bounds.specs.Schedule.{IsSchedule}
use Rattle.tp_text.specs.declared.number.Scale.{Scale}
use Rattle.tp_text.specs.Scales.{scale_ticks}
use Rattle.tp_task.specs.declared.events.Body.{Body}
use Rattle.tp_task.specs.declared.task.Task.{Task}
use Rattle.tp_task.specs.Bounds.{In}
use Rattle.tp_task.specs.State.{State}
use Rattle.tp_task.specs.Valid.{events}
use Rattle.tp_task.specs.Verdict.{states}
use Rattle.tp_happen.specs.tp_plan_text.declared.plans.Step.{Step}
use Rattle.tp_validate.specs.OfTask.{is_step_of, IsOfTask, scale_of, plan_of, state_at}
use Rattle.tp_deorder.specs.Answers.{bounds_in}
use Rattle.tp_deorder.specs.Inequalities.{event_count_of}
use Rattle.tp_deorder.specs.Kept.{net_bounds}
use Rattle.tp_ground.specs.Bindings.{universe_of}
use Rattle.tp_ground.specs.Initially.{initial_in}
use Rattle.tp_ground.specs.ReadBack.{named_body}
use Rattle.tp_ground.specs.Reached.{Instance, instances, happenings_of}
use Rattle.tp_ground.specs.Written.{GroundBody}
use Rattle.tp_ground_laws.specs.SamePlans.{AreSameSteps}
use Rattle.tp_ground_laws.proofs.ByWords.{WordState, Acted, Part, parts, run}
use Rattle.tp_ground_laws.proofs.OnEffects.{IsWorded}
use Rattle.tp_ground_laws.proofs.OnFaults.{states_named}
use Rattle.tp_ground_laws.proofs.OnJudged.{named_worded}
use Rattle.tp_ground_laws.proofs.OnLists.{get_map, got_in}
use Rattle.tp_ground_laws.proofs.OnNamed.{seen}
use Rattle.tp_ground_laws.proofs.OnRuns.{parts_named}
use Rattle.tp_ground_laws.proofs.OnSame.{AreTold, same_got, same_acts}
use Rattle.tp_ground_laws.proofs.OnSteps.{acts_of, bodies_of, bodies_worded, initially, IsTaskFor, begins, steps_named}
use Rattle.tp_exec_laws.specs.SameNetworks.{HaveSameNetwork}
use Rattle.tp_exec_laws.proofs.OnBounds.{same_net}
use Rattle.tp_exec_laws.proofs.OnLimits.{passes_same}
use Rattle.tp_exec_laws.proofs.OnPlans.{IsSamePlanned, same_event_count}
use Rattle.tp_exec_laws.proofs.OnSteps.{MayBeSame, same_found, IsAlike, same_plan, same_lines, same_runs}

-- ---- a task of some ground actions, by words

module _ (scale : Scale) (d : Domain) (p : Problem) (is : List Instance) (t : Task) (k : IsTaskFor scale d p is t) where
  abbrev bs : List GroundBody
  bs = bodies_of (universe_of d p) is

  body_said : (i : ℕ) → option_map (named_body t.numbering) (slice_get t.actions.items i) ≡ slice_get bs i
  body_said i = sym (get_map (named_body t.numbering) t.actions.items i) ∙ ap (λ (cs : List GroundBody). slice_get cs i) k.bodies

  body_worded : (i : ℕ) (b : Body) → slice_get t.actions.items i ≡ Some b → AllByRecursion IsWorded (happenings_of (named_body t.numbering b))
  body_worded i b e = bodies_worded (universe_of d p) is (named_body t.numbering b) (got_in bs i (named_body t.numbering b) (sym (body_said i) ∙ ap (option_map (named_body t.numbering)) e))

  state_said : (ms : List Step) (m : ℕ) → state_at t ms m ≡ seen t.numbering (run (scale_ticks scale) (initially (map initial_in p.initial)) (parts (acts_of bs ms)) m)
  state_said ms m =
      let s = initially (map initial_in p.initial) in
      ap (λ (z : State). states (scale_of t) z (events (plan_of t ms)) m) (begins scale d p is t k)
      ∙ states_named t.numbering k.distinct (scale_of t) (plan_of t ms) (named_worded scale d p is t k ms) s m
      ∙ ap (λ (ps : List Part). seen t.numbering (run (scale_of t) s ps m)) (parts_named t.numbering 0 (plan_of t ms))
      ∙ ap (λ (ps : List Acted). seen t.numbering (run (scale_of t) s (parts ps) m)) (steps_named scale d p is t k ms)
      ∙ ap (λ (x : Scale). seen t.numbering (run (scale_ticks x) s (parts (acts_of bs ms)) m)) k.same_scale

-- ---- two of them

module _ (scale : Scale) (d : Domain) (p : Problem) (told : AreTold scale d p) (is js : List Instance) (in_is : (x : Instance) → In x is → In x (instances (universe_of d p) d.actions)) (in_js : (x : Instance) → In x js → In x (instances (universe_of d p) d.actions)) (t u : Task) (k : IsTaskFor scale d p is t) (l : IsTaskFor scale d p js u) where
  all_alike : (ms ns : List Step) → IsOfTask t ms → IsOfTask u ns → AreSameSteps t u ms ns → AllZip (IsAlike t u) ms ns
  all_alike [] [] h g e = tt
  all_alike [] (n ∷ ns) h g e = absurd e
  all_alike (m ∷ ms) [] h g e = absurd e
  all_alike (m ∷ ms) (n ∷ ns) h g e =
      let hs = and_parts (is_step_of t m) (list_all (is_step_of t) ms) h in
      let gs = and_parts (is_step_of u n) (list_all (is_step_of u) ns) g in
      let found : MayBeSame t.numbering u.numbering (slice_get t.actions.items m.action.0) (slice_get u.actions.items n.action.0) =
      same_found t.numbering u.numbering (slice_get t.actions.items m.action.0) (slice_get u.actions.items n.action.0)
      (body_said scale d p is t k m.action.0 ∙ same_got scale d p told is js in_is in_js t u k l m n hs.0 gs.0 e.0 ∙ sym (body_said scale d p js u l n.action.0))
      (body_worded scale d p is t k m.action.0) in
      (record { same = e.0; bodies = found }, all_alike ms ns hs.1 gs.1 e.1)

  module _ (ms ns : List Step) (h : IsOfTask t ms) (g : IsOfTask u ns) (e : AreSameSteps t u ms ns) where
    alike : AllZip (IsAlike t u) ms ns
    alike = all_alike ms ns h g e

    plans : AllZip (IsSamePlanned t.numbering u.numbering) (plan_of t ms) (plan_of u ns)
    plans = same_plan t u ms ns alike

    counted : event_count_of (plan_of t ms) ≡ event_count_of (plan_of u ns)
    counted = same_event_count t.numbering u.numbering (plan_of t ms) (plan_of u ns) plans

    bounded : (horizon : ℕ) → bounds_in t ms horizon ≡ bounds_in u ns horizon
    bounded horizon =
        let s = initially (map initial_in p.initial) in
        let acts = acts_of (bodies_of (universe_of d p) is) ms in
        let r : ℕ → WordState = run (scale_ticks scale) s (parts acts) in
        let other : (m : ℕ) → state_at u ns m ≡ seen u.numbering (r m) =
        λ m. state_said scale d p js u l ns m ∙ ap (λ (ps : List Acted). seen u.numbering (run (scale_ticks scale) s (parts ps) m)) (sym (same_acts scale d p told is js in_is in_js t u k l ms ns h g e)) in
        ap (λ (x : Scale). net_bounds horizon (scale_ticks x) (state_at t ms) (plan_of t ms)) k.same_scale
        ∙ same_net t.numbering u.numbering k.distinct l.distinct horizon (scale_ticks scale) (state_at t ms) (state_at u ns) r (state_said scale d p is t k ms) other (plan_of t ms) (plan_of u ns) plans
        ∙ ap (λ (x : Scale). net_bounds horizon (scale_ticks x) (state_at u ns) (plan_of u ns)) (sym l.same_scale)

    pub have_same_network : HaveSameNetwork t u ms ns
    have_same_network = record {
      texts = same_lines t u 0 ms ns alike;
      events = counted;
      bounds = bounded;
      schedules = λ horizon m.
          let same : setting_of (event_count_of (plan_of t ms)) horizon (bounds_in t ms horizon) ≡ setting_of (event_count_of (plan_of u ns)) horizon (bounds_in u ns horizon) =
          ap₂ (λ (n : ℕ) (bounds : List Bound). setting_of n horizon bounds) counted (bounded horizon) in
          (subst (λ z. IsSchedule z m) same, subst (λ z. IsSchedule z m) (sym same));
      limits = λ limits. passes_same t.numbering u.numbering k.distinct l.distinct limits t u ms ns plans (bounded limits.horizon);
      runs = λ m. same_runs t u m 0 ms ns alike;
    }
