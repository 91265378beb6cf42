-- What the network of a plan is, and when it is refused.
use Rattle.std.specs.Prelude.{◌≡◌, ℕ, None, ◌<◌, ◌≤◌, ◌⊎◌, ◌↔◌, List, length, map, slice_index_or, string_bytes}
use Rattle.tp_bounds.specs.declared.Bound.{Bound}
use Rattle.tp_bounds.specs.Schedule.{IsSchedule}
use Rattle.tp_task.specs.declared.task.Task.{Task}
use Rattle.tp_task.specs.Bounds.{MeetsBounds}
use Rattle.tp_happen.specs.tp_plan_text.declared.plans.Step.{Step}
use Rattle.tp_validate.specs.OfTask.{AreSteps, scale_of, begin, plan_of, state_at, IsValidPlan}
use Rattle.tp_deorder.specs.RunPlans.{run_steps}
use Rattle.std.specs.List.{All}
use Rattle.tp_bounds.specs.declared.plan_nets.PlanNet.{PlanNet}
use Rattle.tp_bounds.specs.Nets.{SuitsNet}
use Rattle.tp_bounds.specs.OwnBounds.{setting_of, IsWithin}
use Rattle.tp_bounds.specs.RunLimits.{RunLimits}
use Rattle.tp_task.specs.Valid.{Planned, events, at}
use Rattle.tp_task.specs.Verdict.{fault_at, last_moment, states}
use Rattle.tp_happen.specs.Bounded.{StaysSmall}
use Rattle.tp_deorder.specs.declared.DeorderFault.{DeorderFault}
use Rattle.tp_deorder.specs.declared.DeorderFault.TheVariants.{Memory, TooMany}
use Rattle.tp_deorder.specs.EventTexts.{event_lines}
use Rattle.tp_deorder.specs.Inequalities.{event_count_of, bound_count}
use Rattle.tp_deorder.specs.Kept.{net_bounds}

-- a fact of the fault, if it is not out of memory
abbrev pub OnTooMany : DeorderFault → Type 0 → Type 0
OnTooMany Memory P = Unit {0}
OnTooMany TooMany P = P

-- What is known of the steps of a sound plan of a task.
pub record AreSound (t : Task) (steps : List Planned) : Type 0 where
  pub known : AreSteps t steps
  pub clear : (m : ℕ) → fault_at (scale_of t) (begin t) steps m ≡ None
  pub small :
      (m : ℕ) → StaysSmall (scale_of t)
      (states (scale_of t) (begin t) (events steps) m) (at m (events steps))

-- the plan's own ticks: the moment of each event, by its number
abbrev pub own_ticks : List Planned → ℕ → ℕ
own_ticks plan e = slice_index_or (map (λ x. x.moment) (events plan)) e 0

-- The schedules of the network are exactly the assignments from 0 to the horizon that meet the bounds of the plan; the plan's
-- own ticks are one; and the plan of a run at each is valid.
pub record IsNetOf (t : Task) (steps : List Step) (horizon : ℕ) (bounds : List Bound) : Type 0 where
  pub exact :
      (m : ℕ → ℕ) → IsSchedule (setting_of (event_count_of (plan_of t steps)) horizon bounds) m
      ↔ (IsWithin (event_count_of (plan_of t steps)) horizon m
      × MeetsBounds (scale_of t) (state_at t steps) (plan_of t steps) m)
  pub own :
      IsSchedule
      (setting_of (event_count_of (plan_of t steps)) horizon bounds) (own_ticks (plan_of t steps))
  pub valid :
      (m : ℕ → ℕ) → IsSchedule (setting_of (event_count_of (plan_of t steps)) horizon bounds) m
      → IsValidPlan t (run_steps t m steps)
  -- it is one that a network takes: `horizon` is at most that of the limits
  pub suit : horizon ≤ 1_000_000_000 → All (SuitsNet (event_count_of (plan_of t steps))) bounds

-- the bounds of the network of a plan, one after another
abbrev pub bounds_in : Task → List Step → ℕ → List Bound
bounds_in t steps horizon =
    net_bounds horizon (scale_of t) (state_at t steps) (plan_of t steps)

-- The plan has more events than the limits allow, ends past their horizon, or its network has more bounds than they allow, and so the
-- plan has.
abbrev pub PassesLimits : RunLimits → Task → List Step → Type 0
PassesLimits l t steps =
    (l.events < length (events (plan_of t steps)))
    ⊎ ((l.horizon < last_moment (events (plan_of t steps)))
    ⊎ ((l.bounds < length (bounds_in t steps l.horizon))
    × (l.bounds < bound_count (plan_of t steps))))

-- The network of a plan within limits: its horizon is theirs, its events are the plan's, told as text, its bounds are the plan's,
-- one after another, and there are no more of either than the limits allow.
pub record IsPlanNetOf (t : Task) (steps : List Step) (l : RunLimits) (n : PlanNet) : Type 0 where
  pub horizon : n.horizon ≡ l.horizon
  pub texts : map string_bytes n.events.items ≡ event_lines t steps
  pub events : length n.events.items ≡ event_count_of (plan_of t steps)
  pub few_events : length n.events.items ≤ l.events
  pub few_bounds : length n.bounds.items ≤ l.bounds
  pub bounds : n.bounds.items ≡ bounds_in t steps l.horizon
  pub net : IsNetOf t steps l.horizon n.bounds.items
