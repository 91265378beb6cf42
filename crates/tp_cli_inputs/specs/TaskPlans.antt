-- What is written for steps of a task, where domain and problem are spelled by texts.
use Rattle.std.specs.Prelude.{ℕ, List}
use Rattle.tp_text.specs.declared.number.Scale.{Scale}
use Rattle.tp_syntax_ast.specs.Domains.{Domain, SpellsDomain}
use Rattle.tp_syntax_ast.specs.Problems.{Problem, SpellsProblem}
use Rattle.tp_bounds.specs.RunLimits.{RunLimits}
use Rattle.tp_ground_named.specs.Reached.{IsTaskOf}
use Rattle.tp_ground_named.specs.Named.{chosen}
use Rattle.tp_task.specs.Words.{Words}
use Rattle.tp_task.specs.declared.task.Task.{Task}
use Rattle.tp_happen.specs.tp_plan_text.declared.plans.Step.{Step}
use Rattle.tp_happen.specs.tp_plan_text.PlanTexts.{SpellsPlan, AreKnown}
use Rattle.tp_happen.specs.tp_plan_text.PlanPrints.{plan_text}
use Rattle.tp_happen.specs.tp_plan_text.TaskPlans.{EndInTime}
use Rattle.tp_happen.specs.tp_plan_text.TaskWords.{readable}

-- A task of chosen ground actions of a problem that is spelled by texts: what is written for steps of it that end by its horizon
-- spells them.
abbrev pub TaskPlansAreRead : Type 0
TaskPlansAreRead =
    (text other : List ℕ) (d : Domain)
    (p : Problem) (limits : RunLimits) (scale : Scale) (asked : List Words) (t : Task)
    (steps : List Step)
    → SpellsDomain text d
    → SpellsProblem d other p
    → IsTaskOf limits scale d p (chosen d p asked) t
    → AreKnown (readable t) steps
    → EndInTime t steps
    → SpellsPlan (readable t) (plan_text (readable t) steps) steps
