-- Two tasks in which the same steps, their actions taken by words, have the same network and the same runs.
use Rattle.std.specs.Prelude.{◌≡◌, ℕ, Bool, List, ◌↔◌}
use Rattle.tp_syntax_ast.specs.Domains.{Domain, SpellsDomain}
use Rattle.tp_syntax_ast.specs.Problems.{Problem, SpellsProblem}
use Rattle.tp_bounds.specs.OwnBounds.{setting_of}
use Rattle.tp_bounds.specs.RunLimits.{RunLimits}
use Rattle.tp_bounds.specs.Schedule.{IsSchedule}
use Rattle.tp_text.specs.declared.number.Scale.{Scale}
use Rattle.tp_task.specs.declared.task.Task.{Task}
use Rattle.tp_happen.specs.tp_plan_text.declared.plans.Step.{Step}
use Rattle.tp_validate.specs.OfTask.{IsOfTask, plan_of}
use Rattle.tp_ground.specs.Reached.{Instance, IsTaskOf}
use Rattle.tp_deorder.specs.Answers.{bounds_in, PassesLimits}
use Rattle.tp_deorder.specs.EventTexts.{event_lines}
use Rattle.tp_deorder.specs.Inequalities.{event_count_of}
use Rattle.tp_deorder.specs.RunPlans.{run_steps}
use Rattle.tp_ground_laws.specs.SamePlans.{AreSameSteps, some_of}

-- The steps of the one task and those of the other have the same network, the same schedules and the same runs.
pub record HaveSameNetwork (t u : Task) (ms ns : List Step) : Type 0 where
  -- the events are told as the same texts, in order
  pub texts : event_lines t ms ≡ event_lines u ns
  -- there are as many events
  pub events : event_count_of (plan_of t ms) ≡ event_count_of (plan_of u ns)
  -- up to each horizon the bounds are the same, one after another
  pub bounds : (horizon : ℕ) → bounds_in t ms horizon ≡ bounds_in u ns horizon
  -- so the same assignments of moments to events are schedules
  pub schedules :
      (horizon : ℕ) (m : ℕ → ℕ)
      → IsSchedule (setting_of (event_count_of (plan_of t ms)) horizon (bounds_in t ms horizon)) m
      ↔ IsSchedule (setting_of (event_count_of (plan_of u ns)) horizon (bounds_in u ns horizon)) m
  -- the plans exceed the same limits
  pub limits : (l : RunLimits) → PassesLimits l t ms ↔ PassesLimits l u ns
  -- the runs at each assignment are the same steps
  pub runs : (m : ℕ → ℕ) → AreSameSteps t u (run_steps t m ms) (run_steps u m ns)

-- Two tasks of a problem that texts spell, each with some of its ground actions, whichever these are: the same steps have the same
-- network, whether they are valid or not.
abbrev pub PlansHaveSameNetworks : Type 0
PlansHaveSameNetworks =
    (text other : List ℕ) (d : Domain) (p : Problem) (limits small : RunLimits) (scale : Scale)
    (these those : Instance → Bool) (t u : Task)
    → SpellsDomain text d → SpellsProblem d other p
    → IsTaskOf limits scale d p (some_of d p these) t
    → IsTaskOf small scale d p (some_of d p those) u
    → (ms ns : List Step)
    → IsOfTask t ms → IsOfTask u ns → AreSameSteps t u ms ns → HaveSameNetwork t u ms ns
