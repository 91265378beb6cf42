-- Runs that begin with bounds of their own keep to the schedules of these.
use Rattle.std.proofs.Common.{◌≡◌, ℕ, ◌<◌, ◌≤◌, inl, inr, List, length, Option, Some, None, refl, sym, ap, subst, ◌∙◌, arith}
use Rattle.std.proofs.lemmas.Bool.{cases_lt}
use Rattle.std.specs.Ordering.{nat_cmp}
use Rattle.std.specs.FinMap.{get, get-empty}
use Rattle.tp_bounds.specs.declared.Bound.{Bound}
use Rattle.tp_bounds.specs.RunLimits.{RunLimits}
use Rattle.tp_bounds.specs.Setting.{Setting, event_count, fixed_at}
use Rattle.tp_bounds.specs.Schedule.{IsSchedule, HasSchedule}
use Rattle.tp_bounds.specs.OwnBounds.{with_bounds, setting_of, IsWithin, MeetsEach}
use Rattle.tp_bounds.proofs.Numbering.{in_force_each, others_stay}
use Rattle.tp_bounds.proofs.Schedules.{is_schedule, schedule_is}
use Rattle.tp_exec_machine.specs.declared.command.Kind.TheVariants.{Kept}
use Rattle.tp_exec_machine.specs.declared.command.Command.{Command}
use Rattle.tp_exec_machine.specs.declared.command.Answer.{Answer}
use Rattle.tp_exec_machine.specs.Machine.{Machine, IsFresh, plan_machine}
use Rattle.tp_exec_machine.specs.Run.{Run}
use Rattle.tp_exec_machine.specs.OwnBounds.{KeepsTo, MeetsOwn}
use Rattle.tp_exec_machine.proofs.OwnBounds.{unused_behind, same_events, schedule_with}
use Rattle.tp_exec_machine.proofs.Keeping.{IsUnderWay, run_keeps, run_under_way}

-- the events of a schedule happen by the horizon, where the past does
pub in_time : (s : Setting) (t : ℕ → ℕ) → ((e m : ℕ) → fixed_at s e ≡ Some m → m ≤ s.horizon) → IsSchedule s t → IsWithin (event_count s) s.horizon t
in_time s t past h e lt = by_fixed (fixed_at s e) refl
  where
    by_fixed : (o : Option ℕ) → fixed_at s e ≡ o → t e ≤ s.horizon
    by_fixed None is = h.end e lt is
    by_fixed (Some m) is = subst (λ x. x ≤ s.horizon) (sym (h.past e m is)) (past e m is)

module _ (n horizon : ℕ) (bounds : List Bound) (s : Setting) (limits : RunLimits) (fresh : IsFresh s) (events : event_count s ≡ n) (until : s.horizon ≡ horizon) where
  abbrev start : Machine
  start = plan_machine s bounds limits

  abbrev IsOwn : (ℕ → ℕ) → Type 0
  IsOwn t = IsSchedule (setting_of n horizon bounds) t

  none_yet : (id : ℕ) (b : Bound) → get s.bounds id ≡ Some b → ⊥
  none_yet id b g =
      let f : None ≡ Some b = sym (ap (λ m. get m id) fresh.no_bounds ∙ get-empty nat_cmp id) ∙ g in
      let e : ⊥ = cc in
      e

  -- a bound in force is one of the own ones
  own_below : (id : ℕ) (b : Bound) → get (with_bounds s 0 bounds).bounds id ≡ Some b → id < length bounds
  own_below id b g =
      elim (cases_lt id (length bounds)) [
        | inl lt ↦ lt
        | inr ge ↦ absurd (let f : None ≡ Some b = sym (unused_behind s fresh bounds id ge) ∙ g in (let e : ⊥ = cc in e))
      ]

  meets_each : (t : ℕ → ℕ) → MeetsOwn start t → MeetsEach t bounds
  meets_each t own = in_force_each t s 0 bounds (λ id b g. absurd (none_yet id b g)) (λ id b g. own id b (own_below id b g) g)

  -- it keeps to the schedules of these bounds, whatever happens while they are all in force
  pub start_keeps : KeepsTo n IsOwn start
  start_keeps =
      record {
        count = same_events s 0 bounds ∙ events;
        first = omega arith;
        schedules = λ kept t within own.
            is_schedule n horizon t bounds
            (λ e lt. subst (λ h. t e ≤ h) (ap (λ (r : Setting). r.horizon) (others_stay s 0 bounds) ∙ until) (within e lt))
            (meets_each t own);
      }

  pub start_under_way : HasSchedule (setting_of n horizon bounds) → IsUnderWay start.setting
  start_under_way p =
      let w = schedule_is n horizon p.0 bounds p.1 in
      let within : IsWithin (event_count s) s.horizon p.0 = λ e lt. subst (λ h. p.0 e ≤ h) (sym until) (w.0 e (subst (λ c. e < c) events lt)) in
      subst IsUnderWay (sym (others_stay s 0 bounds))
      (record {
        in_time = omega (arith, fresh.start);
        past = λ e k f. absurd (let x : None ≡ Some k = sym (fresh.no_past e) ∙ f in (let g : ⊥ = cc in g));
        possible = (p.0, subst (λ r. IsSchedule r p.0) (others_stay s 0 bounds) (schedule_with s fresh p.0 bounds within w.1));
      })

  module _ (commands : List Command) (answers : List Answer) (last : Machine) (run : Run start commands answers last) where
    last_keeps : KeepsTo n IsOwn last
    last_keeps = run_keeps n IsOwn commands answers start last start_keeps run

    -- the events stay
    pub run_count : event_count last.setting ≡ n
    run_count = last_keeps.count

    -- each schedule that remains, while the own bounds are all in force, is one of these
    pub run_schedule : HasSchedule (setting_of n horizon bounds) → last.kind ≡ Kept → (t : ℕ → ℕ) → IsSchedule last.setting t → IsOwn t
    run_schedule possible kept t h =
        let u : IsUnderWay last.setting = run_under_way commands answers start last (start_under_way possible) run in
        last_keeps.schedules kept t (λ e lt. in_time last.setting t u.past h e (subst (λ c. e < c) (sym run_count) lt)) (λ id b lt g. h.in_force id b g)
