-- What the steps of a plan keep once they have what their actions do.
use Rattle.std.proofs.Common.{◌≡◌, ℕ, zero, suc, ◌+◌, ◌≤◌, Bool, true, false, cond, ◌==◌, nat_le, List, [], ◌∷◌, ◌++◌, length, map, filter, Option, Some, None, option_map, refl, arith}
use Rattle.std.specs.List.{list_all, slice_get}
use Rattle.std.specs.Option.{option_to_list}
use Rattle.std.proofs.lemmas.Bool.{and_parts, and_from, leb-true}
use Rattle.tp_task.specs.declared.events.Body.{Body}
use Rattle.tp_task.specs.declared.task.Task.{Task}
use Rattle.tp_task.specs.declared.events.Body.TheVariants.{Instant, Durative}
use Rattle.tp_task.specs.Fits.{body_fits, event_fits}
use Rattle.tp_task.specs.Happens.{EventOfStep}
use Rattle.tp_task.specs.Valid.{Planned, Placed, events_of, events_from, count_of, at}
use Rattle.tp_task.specs.Verdict.{last_moment}
use Rattle.tp_happen.specs.tp_plan_text.declared.plans.Step.{Step}
use Rattle.tp_happen.specs.tp_plan_text.Steps.{ends_in_time, IsPlan}
use Rattle.tp_validate.specs.OfTask.{AreSteps, plan_of, step_of, planned}

few_more : (s : Step) (o : Option Body) (ps : List Planned) (n : ℕ) → length ps ≤ n → length (option_to_list (option_map (step_of s) o) ++ ps) ≤ suc n
few_more s None ps n h = omega (arith, h)
few_more s (Some b) ps n h = omega (arith, h)

pub planned_few : (bodies : List Body) (steps : List Step) → length (planned bodies steps) ≤ length steps
planned_few bodies [] = omega arith
planned_few bodies (s ∷ ss) = few_more s (slice_get bodies s.action.0) (planned bodies ss) (length ss) (planned_few bodies ss)

abbrev pub ends : Planned → Bool
ends p = nat_le (p.moment + p.duration) 1000000000

end_more : (s : Step) (o : Option Body) (ps : List Planned) → ends_in_time s ≡ true → list_all ends ps ≡ true → list_all ends (option_to_list (option_map (step_of s) o) ++ ps) ≡ true
end_more s None ps e h = h
end_more s (Some b) ps e h = and_from (ends_in_time s) (list_all ends ps) e h

pub planned_ends : (bodies : List Body) (steps : List Step) → list_all ends_in_time steps ≡ true → list_all ends (planned bodies steps) ≡ true
planned_ends bodies [] h = refl
planned_ends bodies (s ∷ ss) h =
    let p = and_parts (ends_in_time s) (list_all ends_in_time ss) h in
    end_more s (slice_get bodies s.action.0) (planned bodies ss) p.0 (planned_ends bodies ss p.1)

module _ (atoms fluents : ℕ) where
  abbrev pub fits : Planned → Bool
  fits p = body_fits atoms fluents p.body

  abbrev pub timed_fits : EventOfStep → Bool
  timed_fits t = event_fits atoms fluents t.event

  fit_more : (s : Step) (bodies : List Body) (i : ℕ) (ps : List Planned) → list_all (body_fits atoms fluents) bodies ≡ true → list_all fits ps ≡ true → list_all fits (option_to_list (option_map (step_of s) (slice_get bodies i)) ++ ps) ≡ true
  fit_more s [] i ps b h = h
  fit_more s (c ∷ cs) zero ps b h = and_from (body_fits atoms fluents c) (list_all fits ps) (and_parts (body_fits atoms fluents c) (list_all (body_fits atoms fluents) cs) b).0 h
  fit_more s (c ∷ cs) (suc i) ps b h = fit_more s cs i ps (and_parts (body_fits atoms fluents c) (list_all (body_fits atoms fluents) cs) b).1 h

  pub planned_fits : (bodies : List Body) (steps : List Step) → list_all (body_fits atoms fluents) bodies ≡ true → list_all fits (planned bodies steps) ≡ true
  planned_fits bodies [] b = refl
  planned_fits bodies (s ∷ ss) b = fit_more s bodies s.action.0 (planned bodies ss) b (planned_fits bodies ss b)

  picked : (m : ℕ) (e : Placed) (es : List Placed) → timed_fits e.timed ≡ true → list_all timed_fits (at m es) ≡ true → (b : Bool) → list_all timed_fits (map (λ (x : Placed). x.timed) (cond b (e ∷ filter (λ x. x.moment == m) es) (filter (λ x. x.moment == m) es))) ≡ true
  picked m e es f h true = and_from (timed_fits e.timed) (list_all timed_fits (at m es)) f h
  picked m e es f h false = h

  body_picked : (m k : ℕ) (p : Planned) (b : Body) (es : List Placed) → body_fits atoms fluents b ≡ true → list_all timed_fits (at m es) ≡ true → list_all timed_fits (at m (events_of k p b ++ es)) ≡ true
  body_picked m k p (Instant x) es f h = picked m (record { number = k; first = k; last = k; moment = p.moment; timed = record { event = x; ticks = 0 } }) es f h (p.moment == m)
  body_picked m k p (Durative x y c) es f h =
      let q = and_parts (event_fits atoms fluents x) (event_fits atoms fluents y) f in
      let end : Placed = record { number = k + 1; first = k; last = k + 1; moment = p.moment + p.duration; timed = record { event = y; ticks = p.duration } } in
      picked m (record { number = k; first = k; last = k + 1; moment = p.moment; timed = record { event = x; ticks = p.duration } }) (end ∷ es) q.0 (picked m end es q.1 h (p.moment + p.duration == m)) (p.moment == m)

  pub events_fit : (m k : ℕ) (ps : List Planned) → list_all fits ps ≡ true → list_all timed_fits (at m (events_from k ps)) ≡ true
  events_fit m k [] h = refl
  events_fit m k (p ∷ ps) h =
      let q = and_parts (fits p) (list_all fits ps) h in
      body_picked m k p p.body (events_from (k + count_of p.body) ps) q.0 (events_fit m (k + count_of p.body) ps q.1)

-- no event is past the end of its step
body_last : (k n : ℕ) (p : Planned) (b : Body) (es : List Placed) → p.moment + p.duration ≤ n → last_moment es ≤ n → last_moment (events_of k p b ++ es) ≤ n
body_last k n p (Instant x) es e h = omega (arith, e, h)
body_last k n p (Durative x y c) es e h = omega (arith, e, h)

pub last_ends : (k : ℕ) (ps : List Planned) → list_all ends ps ≡ true → last_moment (events_from k ps) ≤ 1000000000
last_ends k [] h = omega arith
last_ends k (p ∷ ps) h =
    let q = and_parts (ends p) (list_all ends ps) h in
    body_last k 1000000000 p p.body (events_from (k + count_of p.body) ps) (leb-true (p.moment + p.duration) 1000000000 q.0) (last_ends (k + count_of p.body) ps q.1)

pub steps_of : (t : Task) (steps : List Step) → IsPlan steps → AreSteps t (plan_of t steps)
steps_of t steps plan =
    record {
      few = omega (arith, planned_few t.actions.items steps, plan.few);
      ends = planned_ends t.actions.items steps plan.ends;
      fits = planned_fits (length t.initial_atoms.items) (length t.initial_numbers.items) t.actions.items steps t.fits;
    }
