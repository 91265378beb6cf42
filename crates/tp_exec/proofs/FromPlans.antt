-- What comes from the network of a validated plan.
use Rattle.std.proofs.Common.{◌≡◌, ℕ, zero, suc, ◌+◌, ◌-◌, ◌<◌, ◌≤◌, ◌==◌, ◌||◌, nat_lt, nat_le, true, false, inl, inr, List, [], ◌∷◌, ◌++◌, length, drop, get_or, slice_get, append-nil, append_assoc, add-one, drop-cons, ◌*◌, Option, Some, None, option_map, refl, sym, ap, subst, ◌∙◌, arith}
use Rattle.std.specs.Option.{option_to_list}
use Rattle.std.specs.List.{list_all}
use Rattle.std.proofs.lemmas.Bool.{and_from, cases_lt}
use Rattle.std.proofs.lemmas.Bool.Decides.{nat_tests}
use Rattle.tp_bounds.specs.declared.Bound.{Bound}
use Rattle.tp_bounds.specs.declared.plan_nets.PlanNet.{PlanNet}
use Rattle.tp_bounds.specs.RunLimits.{RunLimits}
use Rattle.tp_bounds.specs.Setting.{Setting, event_count, fixed_at}
use Rattle.tp_bounds.specs.Schedule.{HasSchedule}
use Rattle.tp_deorder.specs.tp_task.declared.events.Body.{Body}
use Rattle.tp_deorder.specs.tp_task.declared.events.Body.TheVariants.{Instant, Durative}
use Rattle.tp_deorder.specs.tp_task.declared.task.Task.{Task}
use Rattle.tp_deorder.specs.tp_task.Valid.{Planned, IsValid, IsValidRun}
use Rattle.tp_deorder.specs.tp_task.Bounds.{MeetsBounds}
use Rattle.tp_deorder.proofs.Sound.{without_fault}
use Rattle.tp_deorder.proofs.Retimed.{retimed_run}
use Rattle.tp_deorder.specs.tp_happen.tp_plan_text.declared.plans.Step.{Step}
use Rattle.tp_deorder.specs.tp_happen.tp_plan_text.Steps.{IsPlan, ends_in_time}
use Rattle.tp_deorder.specs.tp_happen.tp_plan_text.TaskWords.{is_durative}
use Rattle.tp_deorder.specs.tp_validate.OfTask.{IsOfTask, is_step_of, step_of, planned, scale_of, begin, plan_of, state_at, IsValidPlan}
use Rattle.tp_deorder.specs.tp_validate.Verdict.{IsSound}
use Rattle.tp_deorder.specs.Answers.{IsPlanNetOf, own_ticks}
use Rattle.tp_deorder.specs.Inequalities.{event_count_of}
use Rattle.tp_deorder.specs.EventTexts.{has_two}
use Rattle.tp_deorder.specs.RunPlans.{moved_step, count_or_none, moved_from, run_steps}
use Rattle.tp_deorder.proofs.OnRunPlans.{moved_is}
use Rattle.tp_exec_machine.specs.declared.command.Kind.TheVariants.{Kept}
use Rattle.tp_exec_machine.specs.declared.command.Command.{Command}
use Rattle.tp_exec_machine.specs.declared.command.Answer.{Answer}
use Rattle.tp_exec_machine.specs.Machine.{Machine, IsFresh, plan_machine}
use Rattle.tp_exec_machine.specs.Run.{Run}
use Rattle.tp_exec_machine.specs.OwnBounds.{IsDone, moment_or_zero, dispatched_at, AreDispatched}
use Rattle.tp_bounds.specs.Lawful.{IsLawful}
use Rattle.tp_exec.specs.FromPlan.{CameFrom, TellsSteps, TellsPlan}
use Rattle.tp_exec_machine.proofs.Keeping.{IsUnderWay, done_as_wanted, run_keeps, run_under_way}
use Rattle.tp_exec.proofs.OwnSchedules.{start_keeps, start_under_way}

-- ---- the steps of a run

-- moments that are the same at each event give the same steps
module _ (bodies : List Body) (t u : ℕ → ℕ) where
  same_more : (k : ℕ) (s : Step) (ss : List Step) → ((j : ℕ) → ((e : ℕ) → e < j + event_count_of (planned bodies ss) → t e ≡ u e) → moved_from bodies t j ss ≡ moved_from bodies u j ss) → (o : Option Body) → ((e : ℕ) → e < k + event_count_of (option_to_list (option_map (step_of s) o) ++ planned bodies ss) → t e ≡ u e) → option_to_list (option_map (moved_step t k s) o) ++ moved_from bodies t (k + count_or_none o) ss ≡ option_to_list (option_map (moved_step u k s) o) ++ moved_from bodies u (k + count_or_none o) ss
  same_more k s ss ih None h = ih (k + 0) (λ e lt. h e (omega arith))
  same_more k s ss ih (Some (Instant x)) h =
      ap (λ (m : ℕ). record { tick = m; action = s.action; duration = 0 } ∷ moved_from bodies t (k + 1) ss) (h k (omega arith))
      ∙ ap (λ (ys : List Step). moved_step u k s (Instant x) ∷ ys) (ih (k + 1) (λ e lt. h e (omega arith)))
  same_more k s ss ih (Some (Durative x y c)) h =
      ap (λ (m : ℕ). record { tick = m; action = s.action; duration = t (k + 1) - m } ∷ moved_from bodies t (k + 2) ss) (h k (omega arith))
      ∙ (ap (λ (m : ℕ). record { tick = u k; action = s.action; duration = m - u k } ∷ moved_from bodies t (k + 2) ss) (h (k + 1) (omega arith))
      ∙ ap (λ (ys : List Step). moved_step u k s (Durative x y c) ∷ ys) (ih (k + 2) (λ e lt. h e (omega arith))))

  pub moved_same : (k : ℕ) (ss : List Step) → ((e : ℕ) → e < k + event_count_of (planned bodies ss) → t e ≡ u e) → moved_from bodies t k ss ≡ moved_from bodies u k ss
  moved_same k [] h = refl
  moved_same k (s ∷ ss) h = same_more k s ss (λ j. moved_same j ss) (slice_get bodies s.action.0) h

-- an element is found within the list
got_below : {X : Type 0} (xs : List X) (i : ℕ) (x : X) → slice_get xs i ≡ Some x → i < length xs
got_below [] i x h = absurd (let f : ⊥ = cc in f)
got_below (y ∷ ys) zero x h = omega arith
got_below (y ∷ ys) (suc i) x h = omega (arith, got_below ys i x h)

module _ (task : Task) (t : ℕ → ℕ) where
  abbrev bodies : List Body
  bodies = task.actions.items

  -- each is a step of the task
  of_more : (k : ℕ) (s : Step) (rest : List Step) → list_all (is_step_of task) rest ≡ true → (o : Option Body) → slice_get bodies s.action.0 ≡ o → list_all (is_step_of task) (option_to_list (option_map (moved_step t k s) o) ++ rest) ≡ true
  of_more k s rest h None e = h
  of_more k s rest h (Some (Instant x)) e =
      let lt : s.action.0 < length bodies = got_below bodies s.action.0 (Instant x) e in
      let below : nat_lt s.action.0 (length bodies) ≡ true = grind (arith, nat_tests) in
      let lasts : (is_durative (slice_get bodies s.action.0) || 0 == 0) ≡ true = ap (λ o. is_durative o || 0 == 0) e in
      and_from _ (list_all (is_step_of task) rest) (and_from (nat_lt s.action.0 (length bodies)) _ below lasts) h
  of_more k s rest h (Some (Durative x y c)) e =
      let lt : s.action.0 < length bodies = got_below bodies s.action.0 (Durative x y c) e in
      let below : nat_lt s.action.0 (length bodies) ≡ true = grind (arith, nat_tests) in
      let lasts : (is_durative (slice_get bodies s.action.0) || (t (k + 1) - t k) == 0) ≡ true = ap (λ o. is_durative o || (t (k + 1) - t k) == 0) e in
      and_from _ (list_all (is_step_of task) rest) (and_from (nat_lt s.action.0 (length bodies)) _ below lasts) h

  of_task_from : (k : ℕ) (ss : List Step) → list_all (is_step_of task) (moved_from bodies t k ss) ≡ true
  of_task_from k [] = refl
  of_task_from k (s ∷ ss) = of_more k s _ (of_task_from (k + count_or_none (slice_get bodies s.action.0)) ss) (slice_get bodies s.action.0) refl

  pub moved_of_task : (ss : List Step) → IsOfTask task (run_steps task t ss)
  moved_of_task ss = of_task_from 0 ss

  -- they are no more than those of the plan
  few_more : (k : ℕ) (s : Step) (rest : List Step) (n : ℕ) → length rest ≤ n → (o : Option Body) → length (option_to_list (option_map (moved_step t k s) o) ++ rest) ≤ suc n
  few_more k s rest n h None = omega (arith, h)
  few_more k s rest n h (Some b) = omega (arith, h)

  few_from : (k : ℕ) (ss : List Step) → length (moved_from bodies t k ss) ≤ length ss
  few_from k [] = omega arith
  few_from k (s ∷ ss) = few_more k s _ (length ss) (few_from (k + count_or_none (slice_get bodies s.action.0)) ss) (slice_get bodies s.action.0)

  -- each ends by the last moment
  module _ (soon : (e : ℕ) → t e ≤ 1000000000) where
    ends_more : (k : ℕ) (s : Step) (rest : List Step) → list_all ends_in_time rest ≡ true → (o : Option Body) → list_all ends_in_time (option_to_list (option_map (moved_step t k s) o) ++ rest) ≡ true
    ends_more k s rest h None = h
    ends_more k s rest h (Some (Instant x)) =
        let le : t k + 0 ≤ 1000000000 = omega (arith, soon k) in
        and_from (nat_le (t k + 0) 1000000000) (list_all ends_in_time rest) (grind (arith, nat_tests)) h
    ends_more k s rest h (Some (Durative x y c)) =
        let le : t k + (t (k + 1) - t k) ≤ 1000000000 = omega (arith, soon k, soon (k + 1)) in
        and_from (nat_le (t k + (t (k + 1) - t k)) 1000000000) (list_all ends_in_time rest) (grind (arith, nat_tests)) h

    ends_from : (k : ℕ) (ss : List Step) → list_all ends_in_time (moved_from bodies t k ss) ≡ true
    ends_from k [] = refl
    ends_from k (s ∷ ss) = ends_more k s _ (ends_from (k + count_or_none (slice_get bodies s.action.0)) ss) (slice_get bodies s.action.0)

    pub moved_is_plan : (ss : List Step) → length ss ≤ 512 → IsPlan (run_steps task t ss)
    moved_is_plan ss few = record { few = omega (arith, few_from 0 ss); ends = ends_from 0 ss }

-- ---- the same, step by step

module _ (t : ℕ → ℕ) (k : ℕ) (s : Step) (old : List Step) where
  pub put_none : (o : Option Body) → None ≡ option_map has_two o → old ≡ old ++ option_to_list (option_map (moved_step t k s) o)
  put_none None h = sym (append-nil old)
  put_none (Some b) h = absurd (let f : ⊥ = cc in f)

  pub put_one : (tick : ℕ) (o : Option Body) → Some false ≡ option_map has_two o → tick ≡ t k → old ++ record { tick = tick; action = s.action; duration = 0 } ∷ [] ≡ old ++ option_to_list (option_map (moved_step t k s) o)
  put_one tick None h at = absurd (let f : ⊥ = cc in f)
  put_one tick (Some (Instant x)) h at = ap (λ (m : ℕ). old ++ record { tick = m; action = s.action; duration = 0 } ∷ []) at
  put_one tick (Some (Durative x y c)) h at = absurd (let f : ⊥ = cc in f)

  pub put_two : (tick duration : ℕ) (o : Option Body) → Some true ≡ option_map has_two o → tick ≡ t k → duration ≡ t (k + 1) - t k → old ++ record { tick = tick; action = s.action; duration = duration } ∷ [] ≡ old ++ option_to_list (option_map (moved_step t k s) o)
  put_two tick duration None h at is = absurd (let f : ⊥ = cc in f)
  put_two tick duration (Some (Instant x)) h at is = absurd (let f : ⊥ = cc in f)
  put_two tick duration (Some (Durative x y c)) h at is =
      ap (λ (m : ℕ). old ++ record { tick = m; action = s.action; duration = duration } ∷ []) at
      ∙ ap (λ (m : ℕ). old ++ record { tick = t k; action = s.action; duration = m } ∷ []) is

pub count_none : (k : ℕ) (o : Option Body) → None ≡ option_map has_two o → k ≡ k + count_or_none o
count_none k None h = omega arith
count_none k (Some b) h = absurd (let f : ⊥ = cc in f)

pub count_one : (k : ℕ) (o : Option Body) → Some false ≡ option_map has_two o → k + 1 ≡ k + count_or_none o
count_one k None h = absurd (let f : ⊥ = cc in f)
count_one k (Some (Instant x)) h = refl
count_one k (Some (Durative x y c)) h = absurd (let f : ⊥ = cc in f)

pub count_two : (k : ℕ) (o : Option Body) → Some true ≡ option_map has_two o → k + 2 ≡ k + count_or_none o
count_two k None h = absurd (let f : ⊥ = cc in f)
count_two k (Some (Instant x)) h = absurd (let f : ⊥ = cc in f)
count_two k (Some (Durative x y c)) h = refl

at_most_two : (o : Option Body) → count_or_none o ≤ 2
at_most_two None = omega arith
at_most_two (Some (Instant x)) = omega arith
at_most_two (Some (Durative x y c)) = omega arith

module _ (bodies : List Body) (t : ℕ → ℕ) where
  -- one more step
  pub moved_more : (new old all : List Step) (k next i : ℕ) (steps : List Step) (d : Step) → i < length steps → old ++ moved_from bodies t k (drop i steps) ≡ all → new ≡ old ++ option_to_list (option_map (moved_step t k (get_or steps i d)) (slice_get bodies (get_or steps i d).action.0)) → next ≡ k + count_or_none (slice_get bodies (get_or steps i d).action.0) → new ++ moved_from bodies t next (drop (i + 1) steps) ≡ all
  moved_more new old all k next i steps d lt h is n =
      let s = get_or steps i d in
      let o = slice_get bodies s.action.0 in
      ap (λ (xs : List Step). xs ++ moved_from bodies t next (drop (i + 1) steps)) is
      ∙ (append_assoc old (option_to_list (option_map (moved_step t k s) o)) (moved_from bodies t next (drop (i + 1) steps))
      ∙ (ap (λ (j : ℕ). old ++ (option_to_list (option_map (moved_step t k s) o) ++ moved_from bodies t j (drop (i + 1) steps))) n
      ∙ (ap (λ (xs : List Step). old ++ moved_from bodies t k xs) (sym (ap (drop i) refl ∙ first_of_rest steps i d lt)) ∙ h)))
    where
      first_of_rest : (xs : List Step) (j : ℕ) (e : Step) → j < length xs → drop j xs ≡ get_or xs j e ∷ drop (j + 1) xs
      first_of_rest xs j e l = rw add-one (drop-cons xs j e l)

  pub few_events : (k i : ℕ) (o : Option Body) (next : ℕ) → k ≤ 2 * i → next ≡ k + count_or_none o → next ≤ 2 * (i + 1)
  few_events k i o next h n = omega (arith, at_most_two o)

-- ---- a run of what came from a plan

-- its moments make a valid plan, where the run is done and kept
pub run_is_valid : (t : Task) (steps : List Step) (m : Machine) → IsSound t steps → CameFrom t steps m → IsUnderWay m.setting → IsDone m.setting → m.kind ≡ Kept → IsValidPlan t (run_steps t (dispatched_at m.setting) steps)
run_is_valid t steps m sound came u done kept =
    let plan = plan_of t steps in
    let run : IsValidRun (scale_of t) (begin t) t.goal plan (state_at t steps) = without_fault (scale_of t) (begin t) t.goal plan sound.clear sound.reached in
    let p = done_as_wanted (event_count_of plan) (MeetsBounds (scale_of t) (state_at t steps) plan) m came u done kept in
    let there : IsValidPlan t (run_steps t p.0 steps) =
    subst (λ (ps : List Planned). IsValid (scale_of t) (begin t) t.goal ps) (sym (moved_is t.actions.items p.0 0 steps)) (_, retimed_run (scale_of t) (begin t) t.goal plan (state_at t steps) run p.0 p.1) in
    subst (IsValidPlan t) (moved_same t.actions.items p.0 (dispatched_at m.setting) 0 steps (λ e lt. p.2 e (omega (arith, lt)))) there

-- ---- what an executive over a plan's network begins with

module _ (t : Task) (steps : List Step) (l limits : RunLimits) (n : PlanNet) (s : Setting) (net : IsPlanNetOf t steps l n) (fresh : IsFresh s) (events : event_count s ≡ length n.events.items) (horizon : s.horizon ≡ n.horizon) where
  abbrev bounds : List Bound
  bounds = n.bounds.items

  abbrev start : Machine
  start = plan_machine s bounds limits

  count_is : event_count s ≡ event_count_of (plan_of t steps)
  count_is = events ∙ net.events

  until : s.horizon ≡ l.horizon
  until = horizon ∙ net.horizon

  pub start_came : CameFrom t steps start
  start_came =
      let k = start_keeps (event_count_of (plan_of t steps)) l.horizon bounds s limits fresh count_is until in
      record {
        count = k.count;
        first = k.first;
        schedules = λ kept u within own. ((net.net.exact u).0 (k.schedules kept u within own)).1;
      }

  pub start_possible : IsUnderWay start.setting
  start_possible = start_under_way (event_count_of (plan_of t steps)) l.horizon bounds s limits fresh count_is until (own_ticks (plan_of t steps), net.net.own)

  -- each run from there that is done, none of the own bounds being withdrawn, is a valid plan
  pub completed_valid : (commands : List Command) (answers : List Answer) (new : Machine) → IsSound t steps → Run start commands answers new → IsDone new.setting → new.kind ≡ Kept → IsValidPlan t (run_steps t (dispatched_at new.setting) steps)
  completed_valid commands answers new sound run done kept =
      run_is_valid t steps new sound (run_keeps _ _ commands answers start new start_came run) (run_under_way commands answers start new start_possible run) done kept

-- ---- moments in a list

get_or_none : {X : Type 0} (xs : List X) (i : ℕ) (d : X) → length xs ≤ i → get_or xs i d ≡ d
get_or_none [] i d le = refl
get_or_none (x ∷ xs) zero d le = absurd (let f : ⊥ = omega arith in f)
get_or_none (x ∷ xs) (suc i) d le = get_or_none xs i d (omega arith)

-- the moments of events that were dispatched, at every number
pub at_each : (s : Setting) (xs : List ℕ) → AreDispatched s xs → (e : ℕ) → get_or xs e 0 ≡ dispatched_at s e
at_each s xs d e =
    elim (cases_lt e (length xs)) [
      | inl lt ↦ sym (ap moment_or_zero (d.each e lt))
      | inr ge ↦ get_or_none xs e 0 ge ∙ sym (ap moment_or_zero (get_or_none s.fixed e None (omega (arith, d.count))))
    ]

-- none lies past the horizon
pub soon_each : (s : Setting) → IsLawful s → (e : ℕ) → dispatched_at s e ≤ 1000000000
soon_each s l e = soon_of (fixed_at s e) refl
  where
    soon_of : (o : Option ℕ) → fixed_at s e ≡ o → moment_or_zero o ≤ 1000000000
    soon_of None is = omega arith
    soon_of (Some m) is = omega (arith, l.past e m is, l.horizon)

-- ---- the plan of a run

pub steps_are : (t u : Task) (steps given : List Step) (xs held : List ℕ) (s : Setting) (moved : List Step) → u ≡ t → given ≡ steps → held ≡ xs → AreDispatched s xs → moved ≡ run_steps u (λ e. get_or held e 0) given → moved ≡ run_steps t (dispatched_at s) steps
steps_are t u steps given xs held s moved is same there d h =
    h
    ∙ (ap (λ (q : Task). run_steps q (λ e. get_or held e 0) given) is
    ∙ (ap (λ (q : List Step). run_steps t (λ e. get_or held e 0) q) same
    ∙ (ap (λ (q : List ℕ). run_steps t (λ e. get_or q e 0) steps) there
    ∙ moved_same t.actions.items (λ e. get_or xs e 0) (dispatched_at s) 0 steps (λ e lt. at_each s xs d e))))

pub run_is_plan : (t : Task) (steps : List Step) (s : Setting) (moved : List Step) → IsLawful s → length steps ≤ 512 → moved ≡ run_steps t (dispatched_at s) steps → IsPlan moved
run_is_plan t steps s moved l few h = subst IsPlan (sym h) (moved_is_plan t (dispatched_at s) (soon_each s l) steps few)

tells_of : (t : Task) (steps : List Step) (m : Machine) → CameFrom t steps m → IsSound t steps → IsLawful m.setting → HasSchedule m.setting → m.kind ≡ Kept → (o : Option (List Step)) → TellsSteps t steps m.setting o → TellsPlan t steps m o
tells_of t steps m came sound l possible kept None h = λ done k. h done
tells_of t steps m came sound l possible kept (Some p) h =
    let u : IsUnderWay m.setting = record { in_time = l.in_time; past = l.past; possible = possible } in
    record {
      done = h.0;
      kept = kept;
      is = h.1;
      of_task = subst (IsOfTask t) (sym h.1) (moved_of_task t (dispatched_at m.setting) steps);
      valid = subst (IsValidPlan t) (sym h.1) (run_is_valid t steps m sound came u h.0 kept);
    }

pub plan_told : (t : Task) (steps : List Step) (m : Machine) (s : Setting) → s ≡ m.setting → CameFrom t steps m → IsSound t steps → IsLawful s → HasSchedule s → m.kind ≡ Kept → (o : Option (List Step)) → TellsSteps t steps s o → TellsPlan t steps m o
plan_told t steps m s is came sound l possible kept o h =
    tells_of t steps m came sound (subst IsLawful is l) (subst HasSchedule is possible) kept o (subst (λ r. TellsSteps t steps r o) is h)
