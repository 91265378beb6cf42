-- What came of the search of the task that joins leave: what was found was written; or nothing was.
use Rattle.std.specs.Prelude.{◌≡◌, ℕ, List, Option}
use Rattle.tp_bounds.specs.RunLimits.{greatest_limits}
use Rattle.tp_syntax.specs.Domains.{Domain}
use Rattle.tp_syntax.specs.Problems.{Problem}
use Rattle.tp_ground_joins.specs.Joined.{IsJoinedTask}
use Rattle.tp_ground_laws.specs.WholeTasks.{IsWholeTask}
use Rattle.tp_task.specs.declared.task.Task.{Task}
use Rattle.tp_cli_inputs.specs.Named.{AreNamed}
use Rattle.tp_cli_plan.specs.Searches.{Searches, task_words}
use Rattle.tp_cli_plan.specs.declared.planning.Part.{Part}
use Rattle.tp_cli_plan.specs.declared.planning.Part.TheVariants.{Answered, Spent, NoTask}
use Rattle.tp_cli_plan.specs.declared.search_words.SearchWords.{SearchWords}

-- the task is one that joins leave of the domain and the problem that the words name
abbrev pub IsJoinedOf : (List ℕ → Option (List ℕ)) → SearchWords → Task → Type 0
IsJoinedOf held w task =
    (d : Domain) × (p : Problem) × AreNamed held (task_words w) d p
    × IsJoinedTask (greatest_limits w.horizon) w.scale d p task

-- and it has each action that a valid plan may have
abbrev pub IsWholeOf : (List ℕ → Option (List ℕ)) → SearchWords → Task → Type 0
IsWholeOf held w task =
    (d : Domain) × (p : Problem) × AreNamed held (task_words w) d p
    × IsJoinedTask (greatest_limits w.horizon) w.scale d p task
    × IsWholeTask (greatest_limits w.horizon) w.scale d p task

abbrev pub IsPart : (List ℕ → Option (List ℕ)) → SearchWords → Option (List ℕ)
    → Option (List ℕ) → Part → Type 0
IsPart held w before now (Answered planned) = Searches held w before now planned
IsPart held w before now (Spent n) = now ≡ before
IsPart held w before now NoTask = now ≡ before
