-- Schedules of settings in which the network of a plan is in force.
use Rattle.std.proofs.Common.{◌≡◌, ℕ, zero, suc, ◌+◌, ◌<◌, ◌≤◌, List, [], ◌∷◌, length, get_or, pos, Some, sym, ap, subst, ◌∙◌, arith}
use Rattle.std.proofs.lemmas.List.Elements.{All-weaker, All-from_get_or, recursion_from_All}
use Rattle.std.specs.FinMap.{get}
use Rattle.tp_bounds.specs.declared.Bound.{Bound}
use Rattle.tp_bounds.specs.declared.Point.TheVariants.{Origin}
use Rattle.tp_bounds.specs.declared.plan_nets.PlanNet.{PlanNet}
use Rattle.tp_bounds.specs.RunLimits.{RunLimits}
use Rattle.tp_bounds.specs.Setting.{Setting, event_count}
use Rattle.tp_bounds.specs.Schedule.{IsSchedule, Meets}
use Rattle.tp_bounds.specs.Lawful.{IsLawful}
use Rattle.tp_bounds.specs.OwnBounds.{IsWithin, MeetsEach, with_bounds}
use Rattle.tp_bounds.specs.Changes.{with_bound}
use Rattle.tp_bounds.proofs.Schedules.{is_schedule}
use Rattle.tp_bounds.proofs.Numbering.{others_stay}
use Rattle.tp_net.proofs.Laws.{get_inserted}
use Rattle.tp_exec_machine.proofs.OwnBounds.{stays_before, same_events}
use Rattle.tp_deorder.specs.tp_task.declared.task.Task.{Task}
use Rattle.tp_deorder.specs.tp_happen.tp_plan_text.declared.plans.Step.{Step}
use Rattle.tp_deorder.specs.tp_validate.OfTask.{plan_of}
use Rattle.tp_deorder.specs.Answers.{IsPlanNetOf}
use Rattle.tp_deorder.specs.Inequalities.{event_count_of}
use Rattle.tp_exec.proofs.FromPlans.{moved_of_task}
use Rattle.tp_exec_laws.specs.NetsInForce.{IsInForce, HasInForce, MakesValidPlan}
use Rattle.tp_exec.proofs.OwnSchedules.{in_time}

-- ---- bounds come into force

-- what stands for a bound where there is none
nothing : Bound
nothing = record { from = Origin; to = Origin; w = pos 0 }

each_there : (s : Setting) (id : ℕ) (xs : List Bound) (d : Bound) (k : ℕ) → k < length xs → get (with_bounds s id xs).bounds (id + k) ≡ Some (get_or xs k d)
each_there s id [] d k lt = absurd (let f : ⊥ = omega arith in f)
each_there s id (x ∷ xs) d zero lt =
    ap (get (with_bounds (with_bound s id x) (suc id) xs).bounds) (let e : id + 0 ≡ id = omega arith in e)
    ∙ (stays_before (with_bound s id x) (suc id) xs id (omega arith) ∙ get_inserted s.bounds id x)
each_there s id (x ∷ xs) d (suc k) lt =
    ap (get (with_bounds (with_bound s id x) (suc id) xs).bounds) (let e : id + suc k ≡ suc id + k = omega arith in e)
    ∙ each_there (with_bound s id x) (suc id) xs d k (omega arith)

pub come_into_force : (s : Setting) (n : PlanNet) → event_count s ≡ length n.events.items → s.horizon ≡ n.horizon → HasInForce (with_bounds s 0 n.bounds.items) n
come_into_force s n events horizon =
    record {
      events = same_events s 0 n.bounds.items ∙ events;
      horizon = ap (λ (r : Setting). r.horizon) (others_stay s 0 n.bounds.items) ∙ horizon;
      bounds = All-from_get_or (IsInForce (with_bounds s 0 n.bounds.items)) n.bounds.items nothing (λ k lt. (0 + k, each_there s 0 n.bounds.items nothing k lt));
    }

-- ---- the schedules of a plan's network in force

module _ (t : Task) (steps : List Step) (l : RunLimits) (n : PlanNet) (s : Setting) (m : ℕ → ℕ) (lawful : IsLawful s) (net : IsPlanNetOf t steps l n) (there : HasInForce s n) (h : IsSchedule s m) where
  abbrev count : ℕ
  count = event_count_of (plan_of t steps)

  within : IsWithin count l.horizon m
  within e lt =
      subst (λ x. m e ≤ x) (there.horizon ∙ net.horizon)
      (in_time s m lawful.past h e (subst (λ k. e < k) (sym (there.events ∙ net.events)) lt))

  meets : MeetsEach m n.bounds.items
  meets =
      recursion_from_All (Meets m) n.bounds.items
      (All-weaker (IsInForce s) (Meets m) (λ b f. h.in_force f.0 b f.1) n.bounds.items there.bounds)

  pub plan_made : MakesValidPlan t steps m
  plan_made =
      record {
        of_task = moved_of_task t m steps;
        valid = net.net.valid m (is_schedule count l.horizon m n.bounds.items within meets);
      }
