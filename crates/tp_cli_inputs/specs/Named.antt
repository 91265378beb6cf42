-- The plan that words name, and its task: the ground actions that the plan's text names, of all type-correct bindings of the problem.
use Rattle.std.specs.Prelude.{ℕ, List, Option}
use Rattle.tp_bounds.specs.RunLimits.{greatest_limits}
use Rattle.tp_syntax.specs.Domains.{Domain, SpellsDomain}
use Rattle.tp_syntax.specs.Problems.{Problem, SpellsProblem}
use Rattle.tp_ground_named.specs.Reached.{IsTaskOf}
use Rattle.tp_ground_named.specs.Named.{chosen}
use Rattle.tp_task.specs.declared.task.Task.{Task}
use Rattle.tp_happen.specs.tp_plan_text.PlanNames.{plan_names}
use Rattle.tp_happen.specs.tp_plan_text.PlanTexts.{SpellsPlan}
use Rattle.tp_happen.specs.tp_plan_text.TaskWords.{readable}
use Rattle.tp_happen.specs.tp_plan_text.declared.plans.Step.{Step}
use Rattle.tp_cli_files.specs.Texts.{HoldsText}
use Rattle.tp_cli_inputs.specs.declared.plan_words.PlanWords.{PlanWords}

-- a text spells it, and is what the file holds where that is told
abbrev pub IsIn : Option (List ℕ) → (List ℕ → Type 0) → Type 0
IsIn held spells = (text : List ℕ) × HoldsText held text × spells text

-- the domain and the problem are those that the words name
abbrev pub AreNamed : (List ℕ → Option (List ℕ)) → PlanWords → Domain → Problem → Type 0
AreNamed held w d p =
    IsIn (held w.domain.now) (λ text. SpellsDomain text d)
    × IsIn (held w.problem.now) (λ text. SpellsProblem d text p)

-- The task of a plan's text: its actions are all type-correct bindings that the text names, and there is no limit on the others.
abbrev pub IsTaskFor : PlanWords → Domain → Problem → List ℕ → Task → Type 0
IsTaskFor w d p text task =
    IsTaskOf (greatest_limits w.horizon) w.scale d p (chosen d p (plan_names text)) task

-- the steps are those of the plan that the words name, of its task
pub record IsNamedPlan (held : List ℕ → Option (List ℕ)) (w : PlanWords) (task : Task)
    (steps : List Step) : Type 0 where
  pub domain : Domain
  pub problem : Problem
  pub text : List ℕ
  pub are_named : AreNamed held w domain problem
  pub plan_in : HoldsText (held w.plan.now) text
  pub task_of : IsTaskFor w domain problem text task
  pub spelled : SpellsPlan (readable task) text steps
