-- What the executive of a part reports.
use Rattle.std.proofs.Common.{◌≡◌, ℕ, ◌<◌, ◌≤◌, List, [], ◌∷◌, length, slice_get, Option, Some, None, option_map, refl, sym, ap, subst, ◌∙◌}
use Rattle.std.proofs.lemmas.List.{length-map, length-replicate}
use Rattle.std.proofs.lemmas.List.Elements.{All-get_or, recursion_from_All}
use Rattle.std.proofs.lemmas.Option.{slice_get_within, get_or_from_slice_get, slice_get-map}
use Rattle.std.specs.List.{All, AllByRecursion}
use Rattle.tp_bounds.specs.declared.Point.{Point}
use Rattle.tp_bounds.specs.declared.Point.TheVariants.{Origin, Event}
use Rattle.tp_bounds.specs.declared.Bound.{Bound}
use Rattle.tp_bounds.specs.Setting.{Setting, event_count}
use Rattle.tp_bounds.specs.Schedule.{moment_of, IsSchedule, HasSchedule}
use Rattle.tp_bounds.specs.Changes.{fresh}
use Rattle.tp_bounds.specs.OwnBounds.{MeetsEach}
use Rattle.tp_bounds.specs.Nets.{IsPointOf, SuitsNet}
use Rattle.tp_bounds.specs.Certificates.{moments_of}
use Rattle.tp_bounds.proofs.Schedules.{is_schedule, schedule_is}
use Rattle.tp_exec_machine.specs.declared.command.Kind.TheVariants.{Kept}
use Rattle.tp_exec_machine.specs.declared.command.Report.{Report}
use Rattle.tp_exec_machine.specs.Machine.{plan_machine}
use Rattle.tp_exec_machine.specs.Run.{Run}
use Rattle.tp_exec_machine.proofs.OwnBounds.{same_events}
use Rattle.tp_agents.specs.Owners.{events_of}
use Rattle.tp_agents.specs.Parts.{part_bounds, part_setting, IsPartSchedule}
use Rattle.tp_agents.specs.Joined.{IsComplete, moments_told}
use Rattle.tp_agents.proofs.OnSettings.{bound_as}
use Rattle.tp_agents.proofs.PartNets.{texts_count}
use Rattle.tp_exec_laws.specs.PartRuns.{IsPartReport}
use Rattle.tp_exec.proofs.OwnSchedules.{run_count, run_schedule}

-- ---- moments that agree at each event meet the same bounds

module _ (n : ℕ) (t u : ℕ → ℕ) (same : (e : ℕ) → e < n → u e ≡ t e) where
  point_agrees : (p : Point) → IsPointOf n p → moment_of u p ≡ moment_of t p
  point_agrees Origin h = refl
  point_agrees (Event e) h = same e (h e refl)

  each_agrees : (bounds : List Bound) → AllByRecursion (SuitsNet n) bounds → MeetsEach t bounds → MeetsEach u bounds
  each_agrees [] suit h = tt
  each_agrees (b ∷ bs) suit h = (
    bound_as (moment_of t b.to) (moment_of u b.to) (moment_of t b.from) (moment_of u b.from) b.w (point_agrees b.to suit.0.to) (point_agrees b.from suit.0.from) h.0,
    each_agrees bs suit.1 h.1,
  )

-- ---- the report of a part's executive

module _ (s : Setting) (owners : List ℕ) (xs : List (Option (ℕ × ℕ))) (agent : ℕ) (r : Report) (h : IsPartReport s owners xs agent r) where
  abbrev count : ℕ
  count = length (events_of owners agent)

  abbrev own : List Bound
  own = part_bounds s owners xs agent

  abbrev moments : ℕ → ℕ
  moments = moments_of (moments_told r)

  same_count : event_count h.begins.net ≡ count
  same_count = h.begins.events ∙ texts_count h.begins.part.events.items (events_of owners agent) h.begins.is_part.events

  same_horizon : h.begins.net.horizon ≡ s.horizon
  same_horizon = h.begins.horizon ∙ h.begins.is_part.horizon

  own_run : Run (plan_machine h.begins.net own h.begins.limits) h.commands h.answers h.last
  own_run =
      subst (λ m. Run m h.commands h.answers h.last)
      (h.begins.is ∙ ap (λ (bs : List Bound). plan_machine h.begins.net bs h.begins.limits) h.begins.is_part.bounds) h.run

  last_count : event_count h.last.setting ≡ count
  last_count = run_count count s.horizon own h.begins.net h.begins.limits h.begins.fresh same_count same_horizon h.commands h.answers h.last own_run

  pub report_fits : length r.moments.items ≡ count
  report_fits = h.report.moments.count ∙ last_count

  told : (e : ℕ) → e < count → moments e ≡ h.report.moments.schedule e
  told e lt =
      get_or_from_slice_get (moments_told r) e (h.report.moments.schedule e) 0
      (slice_get-map (λ m. m.0) r.moments.items e ∙ ap (option_map (λ m. m.0)) (h.report.moments.each e (subst (λ n. e < n) (sym last_count) lt)))

  part_count : event_count (part_setting s owners xs agent) ≡ count
  part_count = same_events (fresh count s.horizon) 0 own ∙ length-replicate count None

  pub kept_tells : All (SuitsNet count) own → HasSchedule (part_setting s owners xs agent) → r.kind ≡ Kept → IsPartSchedule s owners xs agent (moments_told r)
  kept_tells suit possible kept =
      let t : ℕ → ℕ = h.report.moments.schedule in
      let is : IsSchedule (part_setting s owners xs agent) t = run_schedule count s.horizon own h.begins.net h.begins.limits h.begins.fresh same_count same_horizon h.commands h.answers h.last own_run possible (sym h.report.kind ∙ kept) t h.report.moments.least.is in
      let w = schedule_is count s.horizon t own is in
      record {
        each = length-map r.moments.items (λ m. m.0) ∙ (report_fits ∙ sym part_count);
        schedule = is_schedule count s.horizon moments own
            (λ e lt. subst (λ x. x ≤ s.horizon) (sym (told e lt)) (w.0 e lt))
            (each_agrees count t moments told own (recursion_from_All (SuitsNet count) own suit) w.1);
      }

-- ---- one of complete reports

pub complete_at : (reports : List Report) (agent : ℕ) (r : Report) → All IsComplete reports → slice_get reports agent ≡ Some r → IsComplete r
complete_at reports agent r all there =
    subst IsComplete (get_or_from_slice_get reports agent r r there)
    (All-get_or IsComplete reports agent r (slice_get_within reports agent r there) all)
