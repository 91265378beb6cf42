-- The task that is searched, and why there is none, where files hold the same at two times.
use Rattle.std.proofs.Common.{◌≡◌, ℕ, List, Option, subst}
use Rattle.tp_bounds.specs.RunLimits.{greatest_limits}
use Rattle.tp_syntax.specs.Domains.{Domain, SpellsDomain}
use Rattle.tp_syntax.specs.Problems.{Problem, SpellsProblem}
use Rattle.tp_ground.specs.Reached.{IsReachedTask}
use Rattle.tp_ground_joins.specs.Joined.{IsJoinedTask}
use Rattle.tp_ground_laws.specs.WholeTasks.{IsWholeTask}
use Rattle.tp_task.specs.declared.task.Task.{Task}
use Rattle.tp_cli_inputs.specs.Named.{AreNamed}
use Rattle.tp_cli_inputs.specs.declared.judging.JudgeFault.{JudgeFault}
use Rattle.tp_cli_inputs.specs.declared.judging.JudgeFault.TheVariants as judge
use Rattle.tp_cli_inputs.specs.declared.plan_words.PlanWords.{PlanWords}
use Rattle.tp_cli_inputs.proofs.NamedLemmas.{Same, explains_over, in_over}
use Rattle.tp_cli_plan.specs.Parts.{IsJoinedOf, IsWholeOf}
use Rattle.tp_cli_plan.specs.SearchTasks.{ExplainsTask, IsSearchTask}
use Rattle.tp_cli_plan.specs.Searches.{task_words}
use Rattle.tp_cli_plan.specs.declared.search_words.SearchWords.{SearchWords}

pub search_task : (held : List ℕ → Option (List ℕ)) (w v : PlanWords) (d : Domain) (p : Problem) (task : Task) → w ≡ v → AreNamed held v d p → IsReachedTask (greatest_limits w.horizon) w.scale d p task → IsSearchTask held v task
search_task held w v d p task e are is =
    record {
      domain = d;
      problem = p;
      domain_in = are.0;
      problem_in = are.1;
      task_of = subst (λ (x : PlanWords). IsReachedTask (greatest_limits x.horizon) x.scale d p task) e is;
    }

pub joined_of : (held : List ℕ → Option (List ℕ)) (w : SearchWords) (v : PlanWords) (d : Domain) (p : Problem) (task : Task) → v ≡ task_words w → AreNamed held (task_words w) d p → IsJoinedTask (greatest_limits v.horizon) v.scale d p task → IsJoinedOf held w task
joined_of held w v d p task e are is =
    (d, p, are, subst (λ (x : PlanWords). IsJoinedTask (greatest_limits x.horizon) x.scale d p task) e is)

pub whole_of : (held : List ℕ → Option (List ℕ)) (w : SearchWords) (v : PlanWords) (d : Domain) (p : Problem) (task : Task) → v ≡ task_words w → AreNamed held (task_words w) d p → IsJoinedTask (greatest_limits v.horizon) v.scale d p task → IsWholeTask (greatest_limits v.horizon) v.scale d p task → IsWholeOf held w task
whole_of held w v d p task e are joined whole = (
  d,
  p,
  are,
  subst (λ (x : PlanWords). IsJoinedTask (greatest_limits x.horizon) x.scale d p task) e joined,
  subst (λ (x : PlanWords). IsWholeTask (greatest_limits x.horizon) x.scale d p task) e whole,
)

pub task_explained : (a b : List ℕ → Option (List ℕ)) (w : PlanWords) (fault : JudgeFault) → Same a b → ExplainsTask a w fault → ExplainsTask b w fault
task_explained a b w (judge.DomainFile fault) same h = explains_over a b w (judge.DomainFile fault) same h
task_explained a b w (judge.Domain fault) same h = explains_over a b w (judge.Domain fault) same h
task_explained a b w (judge.ProblemFile fault) same h = explains_over a b w (judge.ProblemFile fault) same h
task_explained a b w (judge.Problem fault) same h = explains_over a b w (judge.Problem fault) same h
task_explained a b w (judge.Task fault) same h = (
  h.0,
  h.1,
  in_over a b w.domain.now (λ text. SpellsDomain text h.0) same h.2,
  in_over a b w.problem.now (λ text. SpellsProblem h.0 text h.1) same h.3,
  h.4,
)
task_explained a b w (judge.PlanFile fault) same h = absurd h
task_explained a b w (judge.Plan fault) same h = absurd h
task_explained a b w judge.Memory same h = absurd h
task_explained a b w judge.Range same h = absurd h
