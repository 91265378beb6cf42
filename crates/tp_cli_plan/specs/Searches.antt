-- The search for a plan of the problem in a file.
use Rattle.std.specs.Prelude.{◌≡◌, ℕ, List, [], Option, Bool, true, false, ◌⊎◌}
use Rattle.std.specs.Io.KnownBytes.{Appends}
use Rattle.tp_device.specs.Bytes.{AppendsPart}
use Rattle.tp_bounds.specs.RunLimits.{RunLimits, greatest_limits}
use Rattle.tp_text.specs.declared.number.Scale.{Scale}
use Rattle.tp_syntax.specs.Domains.{Domain}
use Rattle.tp_syntax.specs.Problems.{Problem}
use Rattle.tp_ground.specs.Grounding.{IsTask}
use Rattle.tp_ground.specs.Reached.{IsReachedTask}
use Rattle.tp_ground_joins.specs.Joined.{IsJoinedTask}
use Rattle.tp_ground_laws.specs.SamePlans.{HaveSamePlans}
use Rattle.tp_ground_laws.specs.WholeTasks.{IsWholeTask}
use Rattle.tp_task.specs.declared.task.Task.{Task}
use Rattle.tp_cli_inputs.specs.Named.{AreNamed}
use Rattle.tp_cli_inputs.specs.declared.plan_words.PlanWords.{PlanWords}
use Rattle.tp_cli_plan.specs.SearchTasks.{IsSearchTask}
use Rattle.tp_cli_plan.specs.FoundText.{IsNoPlanLine, IsPlanText}
use Rattle.tp_cli_plan.specs.declared.search_words.Order.{Order}
use Rattle.tp_cli_plan.specs.declared.search_words.Order.TheVariants.{Lacking, Guided}
use Rattle.tp_cli_plan.specs.declared.search_words.SearchWords.{SearchWords}
use Rattle.tp_solve.specs.declared.solving.Wishes.{Wishes}

-- it is told how far the search is, or of plans as they are found
abbrev pub tells_progress : Order → Bool
tells_progress (Lacking progress) = progress
tells_progress (Guided wishes) = wishes.progress

-- the same words as those of a plan in a file, though no file of a plan is opened
abbrev pub task_words : SearchWords → PlanWords
task_words w =
    record {
      domain = w.domain;
      problem = w.problem;
      plan = w.problem;
      scale = w.scale;
      horizon = w.horizon;
    }

-- The task of which a plan is found: that of the actions that the relaxed reach keeps; in the
-- guided order perhaps that of some actions that joins leave.
abbrev pub IsPlanTask : Order → RunLimits → Scale → Domain → Problem → Task → Type 0
IsPlanTask (Lacking progress) limits scale d p task = IsReachedTask limits scale d p task
IsPlanTask (Guided wishes) limits scale d p task =
    IsReachedTask limits scale d p task ⊎ IsJoinedTask limits scale d p task

-- The task of which it is said why no plan was found: that of the actions that the relaxed reach
-- keeps; in the guided order perhaps that of each action that a valid plan may have.
abbrev pub IsSearched : Order → RunLimits → Scale → Domain → Problem → Task → Type 0
IsSearched (Lacking progress) limits scale d p task = IsReachedTask limits scale d p task
IsSearched (Guided wishes) limits scale d p task =
    IsReachedTask limits scale d p task ⊎ IsWholeTask limits scale d p task

-- a valid plan of such a task of the domain and the problem that the words name was written, which
-- ends by their horizon
pub record WritesPlan (held : List ℕ → Option (List ℕ)) (w : SearchWords)
    (before now : Option (List ℕ)) : Type 0 where
  pub task : Task
  pub text : List ℕ
  pub domain : Domain
  pub problem : Problem
  pub are_named : AreNamed held (task_words w) domain problem
  pub task_of : IsPlanTask w.order (greatest_limits w.horizon) w.scale domain problem task
  pub plan : IsPlanText task w.horizon text
  -- and it is one of the task of all ground actions, where there is that task within the limits
  pub of_all :
      (all : Task)
      → IsTask (greatest_limits w.horizon) w.scale domain problem all
      → IsPlanText all w.horizon text
  pub written : Appends before now text

-- no plan of the actions in reach was found within the budget, and it was written why
pub record SaysNoneInReach (held : List ℕ → Option (List ℕ)) (w : SearchWords)
    (before now : Option (List ℕ)) : Type 0 where
  pub task : Task
  pub line : List ℕ
  pub named : IsSearchTask held (task_words w) task
  pub why : IsNoPlanLine task w.budget line
  -- and it is so of the task of all ground actions, where there is that task within the limits
  pub of_all :
      (all : Task)
      → IsTask (greatest_limits w.horizon) w.scale named.domain named.problem all
      → IsNoPlanLine all w.budget line
  pub written : Appends before now line

-- in the guided order perhaps none of the actions that a valid plan may have
pub record SaysNoneOfWhole (held : List ℕ → Option (List ℕ)) (w : SearchWords)
    (before now : Option (List ℕ)) : Type 0 where
  pub wishes : Wishes
  pub order : w.order ≡ Guided wishes
  pub task : Task
  pub line : List ℕ
  pub domain : Domain
  pub problem : Problem
  pub are_named : AreNamed held (task_words w) domain problem
  pub task_of : IsWholeTask (greatest_limits w.horizon) w.scale domain problem task
  pub why : IsNoPlanLine task w.budget line
  -- and the task of all ground actions, where there is that task within the limits, has its plans
  pub of_all :
      (all : Task)
      → IsTask (greatest_limits w.horizon) w.scale domain problem all
      → HaveSamePlans all task
  pub written : Appends before now line

abbrev pub SaysNoPlan : (List ℕ → Option (List ℕ)) → SearchWords → Option (List ℕ)
    → Option (List ℕ) → Type 0
SaysNoPlan held w before now = SaysNoneInReach held w before now ⊎ SaysNoneOfWhole held w before now

-- the answer is whether a plan was written
abbrev pub Searches : (List ℕ → Option (List ℕ)) → SearchWords → Option (List ℕ) → Option (List ℕ)
    → Bool → Type 0
Searches held w before now true = WritesPlan held w before now
Searches held w before now false = SaysNoPlan held w before now

-- what is to be written: a plan of a task, or why none was found
abbrev pub IsSearchText : SearchWords → Domain → Problem → Task → List ℕ → Type 0
IsSearchText w d p task text =
    IsPlanTask w.order (greatest_limits w.horizon) w.scale d p task
    × IsPlanText task w.horizon text
    ⊎ IsSearched w.order (greatest_limits w.horizon) w.scale d p task
    × IsNoPlanLine task w.budget text

-- a first part of that was written
pub record SearchesSome (held : List ℕ → Option (List ℕ)) (w : SearchWords)
    (before now : Option (List ℕ)) : Type 0 where
  pub task : Task
  pub text : List ℕ
  pub domain : Domain
  pub problem : Problem
  pub are_named : AreNamed held (task_words w) domain problem
  pub is : IsSearchText w domain problem task text
  pub part : AppendsPart before now text

-- nothing was written, or a first part of the plan or of why there is none
abbrev pub SearchesPart : (List ℕ → Option (List ℕ)) → SearchWords → Option (List ℕ)
    → Option (List ℕ) → Type 0
SearchesPart held w before now = Appends before now [] ⊎ SearchesSome held w before now
