-- Two tasks with the same plans, where the actions of steps are taken by their words.
use Rattle.std.specs.Prelude.{◌≡◌, ℕ, Bool, true, List, [], ◌∷◌, ◌↔◌, slice_get, filter}
use Rattle.tp_syntax_ast.specs.Domains.{Domain, SpellsDomain}
use Rattle.tp_syntax_ast.specs.Problems.{Problem, SpellsProblem}
use Rattle.tp_bounds.specs.RunLimits.{RunLimits}
use Rattle.tp_text.specs.declared.number.Scale.{Scale}
use Rattle.tp_task.specs.declared.task.Task.{Task}
use Rattle.tp_task.specs.Tables.{words_at}
use Rattle.tp_happen.specs.tp_plan_text.declared.plans.Step.{Step}
use Rattle.tp_happen.specs.tp_plan_text.PlanPrints.{plan_text}
use Rattle.tp_happen.specs.tp_plan_text.TaskWords.{is_durative, readable}
use Rattle.tp_validate.specs.Answers.{IsFirst}
use Rattle.tp_validate.specs.OfTask.{IsOfTask, IsValidPlan, is_step_of}
use Rattle.tp_validate.specs.declared.ticks.Fault.{Fault}
use Rattle.tp_ground.specs.Bindings.{universe_of}
use Rattle.tp_ground.specs.Reached.{Instance, instances, IsTaskOf}

-- Steps at the same tick, as long, and of actions of the same words.
pub record IsSameStep (t u : Task) (m n : Step) : Type 0 where
  pub tick : m.tick ≡ n.tick
  pub duration : m.duration ≡ n.duration
  pub action : words_at t.numbering.actions m.action.0 ≡ words_at u.numbering.actions n.action.0

-- step by step
abbrev pub AreSameSteps : Task → Task → List Step → List Step → Type 0
AreSameSteps t u [] [] = Unit {0}
AreSameSteps t u [] (n ∷ ns) = ⊥
AreSameSteps t u (m ∷ ms) [] = ⊥
AreSameSteps t u (m ∷ ms) (n ∷ ns) = IsSameStep t u m n × AreSameSteps t u ms ns

-- The plans that are valid for one task are those that are valid for the other, which may have fewer actions.
pub record HaveSamePlans (t u : Task) : Type 0 where
  -- the same steps are valid for both, or for neither
  pub same :
      (ms ns : List Step)
      → IsOfTask t ms → IsOfTask u ns
      → AreSameSteps t u ms ns → IsValidPlan t ms ↔ IsValidPlan u ns
  -- the steps of a valid plan of the one are steps of the other
  pub kept :
      (ms : List Step)
      → IsOfTask t ms → IsValidPlan t ms
      → (ns : List Step) × IsOfTask u ns × AreSameSteps t u ms ns
  -- each step of the other is one of the one
  pub wide :
      (ns : List Step) → IsOfTask u ns → (ms : List Step) × IsOfTask t ms × AreSameSteps t u ms ns
  -- the same step is durative for both, or for neither
  pub lasting :
      (m n : Step)
      → is_step_of t m ≡ true → is_step_of u n ≡ true
      → IsSameStep t u m n → is_durative (slice_get t.actions.items m.action.0) ≡ is_durative (slice_get u.actions.items n.action.0)
  -- the same steps are written as the same text
  pub told :
      (ms ns : List Step)
      → IsOfTask t ms → IsOfTask u ns
      → AreSameSteps t u ms ns → plan_text (readable t) ms ≡ plan_text (readable u) ns

-- The steps of a task that has some of the actions of another are steps of that one.
pub record HoldsPlans (t u : Task) : Type 0 where
  -- the same steps are valid for both, or for neither
  pub same :
      (ms ns : List Step)
      → IsOfTask t ms → IsOfTask u ns
      → AreSameSteps t u ms ns → IsValidPlan t ms ↔ IsValidPlan u ns
  -- each step of the other is one of the one
  pub wide :
      (ns : List Step) → IsOfTask u ns → (ms : List Step) × IsOfTask t ms × AreSameSteps t u ms ns
  -- the same steps are written as the same text
  pub told :
      (ms ns : List Step)
      → IsOfTask t ms → IsOfTask u ns
      → AreSameSteps t u ms ns → plan_text (readable t) ms ≡ plan_text (readable u) ns

-- some ground actions of a problem, in order
abbrev pub some_of : Domain → Problem → (Instance → Bool) → List Instance
some_of d p test = filter test (instances (universe_of d p) d.actions)

-- The same steps are valid for both tasks or for neither, and have the same first fault.
pub record AreJudgedAlike (t u : Task) (ms ns : List Step) : Type 0 where
  pub valid : IsValidPlan t ms ↔ IsValidPlan u ns
  pub first : (tick : ℕ) (why : Fault) → IsFirst t ms tick why ↔ IsFirst u ns tick why

-- Two tasks of a problem that texts spell, each with some of its ground actions, whichever these are, judge the same steps alike.
abbrev pub PlansAreJudgedAlike : Type 0
PlansAreJudgedAlike =
    (text other : List ℕ) (d : Domain) (p : Problem) (limits small : RunLimits) (scale : Scale)
    (these those : Instance → Bool) (t u : Task)
    → SpellsDomain text d → SpellsProblem d other p
    → IsTaskOf limits scale d p (some_of d p these) t
    → IsTaskOf small scale d p (some_of d p those) u
    → (ms ns : List Step)
    → IsOfTask t ms → IsOfTask u ns → AreSameSteps t u ms ns → AreJudgedAlike t u ms ns
