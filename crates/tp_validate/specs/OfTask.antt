-- The plans of a task: what their steps do, their run, and when they are valid.
use Rattle.std.specs.Prelude.{◌≡◌, ℕ, suc, ◌+◌, ◌≤◌, nat_le, Bool, true, nat_lt, ◌&&◌, ◌||◌, ◌==◌, List, [], ◌∷◌, ◌++◌, length, slice_get, option_map, Option}
use Rattle.std.specs.Option.{option_to_list}
use Rattle.std.specs.List.{list_all}
use Rattle.tp_text.specs.Scales.{scale_ticks}
use Rattle.tp_task.specs.declared.events.Body.{Body}
use Rattle.tp_task.specs.declared.task.Task.{Task}
use Rattle.tp_task.specs.State.{State}
use Rattle.tp_task.specs.Fits.{body_fits}
use Rattle.tp_task.specs.Valid.{Planned, Placed, events, IsValid}
use Rattle.tp_task.specs.Verdict.{Fault, states, fault_at, last_moment}
use Rattle.tp_happen.specs.tp_plan_text.declared.plans.Step.{Step}
use Rattle.tp_happen.specs.Stored.{state_of, first_of}
use Rattle.tp_happen.specs.tp_plan_text.TaskWords.{is_durative}

-- a step's action is the task's, and if it is instantaneous the step lasts no tick
abbrev pub is_step_of : Task → Step → Bool
is_step_of t s =
    nat_lt s.action.0 (length t.actions.items)
    && (is_durative (slice_get t.actions.items s.action.0) || s.duration == 0)

abbrev pub IsOfTask : Task → List Step → Type 0
IsOfTask t steps = list_all (is_step_of t) steps ≡ true

-- a step with what its action does
abbrev pub step_of : Step → Body → Planned
step_of s b = record { moment = s.tick; duration = s.duration; body = b }

-- the steps in order, each with what its action does
abbrev pub planned : List Body → List Step → List Planned
planned bodies [] = []
planned bodies (s ∷ ss) =
    option_to_list (option_map (step_of s) (slice_get bodies s.action.0)) ++ planned bodies ss

abbrev pub plan_of : Task → List Step → List Planned
plan_of t steps = planned t.actions.items steps

-- What is known of the steps of a plan: they are few, none ends late, and their events fit the states of the task.
pub record AreSteps (t : Task) (ps : List Planned) : Type 0 where
  pub few : length ps ≤ 512
  pub ends : list_all (λ p. nat_le (p.moment + p.duration) 1000000000) ps ≡ true
  pub fits :
      list_all (λ p. body_fits (length t.initial_atoms.items) (length t.initial_numbers.items) p.body)
      ps ≡ true

abbrev pub events_of : Task → List Step → List Placed
events_of t steps = events (plan_of t steps)

-- the ticks of a unit, and the state in which the task begins
abbrev pub scale_of : Task → ℕ
scale_of t = scale_ticks t.scale

abbrev pub begin : Task → State
begin t = state_of (first_of t)

-- the state before each moment of the run, and after the last one
abbrev pub state_at : Task → List Step → ℕ → State
state_at t steps m = states (scale_of t) (begin t) (events_of t steps) m

abbrev pub last_state : Task → List Step → State
last_state t steps = state_at t steps (suc (last_moment (events_of t steps)))

-- the fault at a moment, if there is one
abbrev pub fault_in : Task → List Step → ℕ → Option Fault
fault_in t steps m = fault_at (scale_of t) (begin t) (plan_of t steps) m

-- the plan is valid for the task
abbrev pub IsValidPlan : Task → List Step → Type 0
IsValidPlan t steps = IsValid (scale_of t) (begin t) t.goal (plan_of t steps)
