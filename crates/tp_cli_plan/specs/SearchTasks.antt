-- The task that is searched: that of the actions that the relaxed reach keeps, of the domain and the problem that words name.
use Rattle.std.specs.Prelude.{ℕ, List, Option}
use Rattle.tp_bounds.specs.RunLimits.{greatest_limits}
use Rattle.tp_syntax.specs.Domains.{Domain, SpellsDomain}
use Rattle.tp_syntax.specs.Problems.{Problem, SpellsProblem}
use Rattle.tp_ground.specs.Reached.{IsReachedTask, HasNoReachedTask}
use Rattle.tp_task.specs.declared.task.Task.{Task}
use Rattle.tp_cli_inputs.specs.Causes.{Explains}
use Rattle.tp_cli_inputs.specs.Named.{IsIn}
use Rattle.tp_cli_inputs.specs.declared.judging.JudgeFault.{JudgeFault}
use Rattle.tp_cli_inputs.specs.declared.judging.JudgeFault.TheVariants as judge
use Rattle.tp_cli_inputs.specs.declared.plan_words.PlanWords.{PlanWords}

-- the task is that of the domain and the problem that the words name
pub record IsSearchTask (held : List ℕ → Option (List ℕ)) (w : PlanWords)
    (task : Task) : Type 0 where
  pub domain : Domain
  pub problem : Problem
  pub domain_in : IsIn (held w.domain.now) (λ text. SpellsDomain text domain)
  pub problem_in : IsIn (held w.problem.now) (λ text. SpellsProblem domain text problem)
  pub task_of : IsReachedTask (greatest_limits w.horizon) w.scale domain problem task

-- The fault is one of what the files hold: of a domain, a problem or their task, and so of no plan.
abbrev pub ExplainsTask : (List ℕ → Option (List ℕ)) → PlanWords → JudgeFault → Type 0
ExplainsTask held w (judge.DomainFile fault) = Explains held w (judge.DomainFile fault)
ExplainsTask held w (judge.Domain fault) = Explains held w (judge.Domain fault)
ExplainsTask held w (judge.ProblemFile fault) = Explains held w (judge.ProblemFile fault)
ExplainsTask held w (judge.Problem fault) = Explains held w (judge.Problem fault)
ExplainsTask held w (judge.Task fault) =
    (domain : Domain) × (problem : Problem)
    × IsIn (held w.domain.now) (λ text. SpellsDomain text domain)
    × IsIn (held w.problem.now) (λ text. SpellsProblem domain text problem)
    × HasNoReachedTask (greatest_limits w.horizon) domain problem fault
ExplainsTask held w (judge.PlanFile fault) = ⊥
ExplainsTask held w (judge.Plan fault) = ⊥
ExplainsTask held w judge.Memory = ⊥
ExplainsTask held w judge.Range = ⊥
