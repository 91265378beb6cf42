-- What is told where a search stops without an answer, and why it stops.
use Rattle.std.specs.Prelude.{◌≡◌, ℕ, ◌+◌, List, Option, Bool, false, Result, Ok, Err}
use Rattle.tp_bounds.specs.RunLimits.{greatest_limits}
use Rattle.tp_syntax.specs.Domains.{Domain}
use Rattle.tp_syntax.specs.Problems.{Problem}
use Rattle.tp_task.specs.declared.task.Task.{Task}
use Rattle.tp_search.specs.tp_search_frontier.declared.fault.SearchFault.{SearchFault}
use Rattle.tp_search.specs.tp_search_frontier.declared.fault.SearchFault.TheVariants as search
use Rattle.tp_cli_files.specs.Causes.{raised}
use Rattle.tp_cli_files.specs.FaultLines.{Tells, line_of}
use Rattle.tp_cli_files.specs.declared.faults.Part.TheVariants as parts
use Rattle.tp_cli_files.specs.declared.faults.Fault.TheVariants as faults
use Rattle.tp_cli_inputs.specs.JudgeLines.{judge_status, judge_text, judge_unread}
use Rattle.tp_cli_inputs.specs.Named.{AreNamed}
use Rattle.tp_cli_plan.specs.SearchTasks.{ExplainsTask}
use Rattle.tp_cli_plan.specs.Searches.{IsSearched, SearchesSome, task_words}
use Rattle.tp_cli_plan.specs.declared.search_words.SearchWords.{SearchWords}
use Rattle.tp_cli_plan.specs.declared.stops.SearchStop.{SearchStop}
use Rattle.tp_cli_plan.specs.declared.stops.SearchStop.TheVariants.{Files, Searching, Write}

abbrev pub search_status : SearchFault → ℕ
search_status search.Memory = 3
search_status search.Range = 2

abbrev pub search_text : SearchFault → List ℕ
search_text search.Memory = line_of (faults.Memory parts.Search)
search_text search.Range = line_of faults.SearchRange

abbrev pub stop_status : SearchStop → ℕ
stop_status (Files fault) = judge_status fault
stop_status (Searching fault) = search_status fault
stop_status Write = 3

abbrev pub stop_text : SearchWords → SearchStop → List ℕ
stop_text w (Files fault) = judge_text (task_words w) fault
stop_text w (Searching fault) = search_text fault
stop_text w Write = line_of faults.ScriptWrite

-- a write that failed is counted
abbrev pub stop_failures : {T : Type 0} → ℕ → Result T SearchStop → ℕ
stop_failures n (Ok x) = n
stop_failures n (Err (Files fault)) = n
stop_failures n (Err (Searching fault)) = n
stop_failures n (Err Write) = n + 1

-- a file can't be read
abbrev pub stop_unread : SearchStop → Bool
stop_unread (Files fault) = judge_unread fault
stop_unread (Searching fault) = false
stop_unread Write = false

-- Why a search stopped: the files gave no task, or the search of their task no answer, and nothing was written; or a first part of the answer
-- was.
abbrev pub StopsSearch : (List ℕ → Option (List ℕ)) → SearchWords → Option (List ℕ)
    → Option (List ℕ) → SearchStop → Type 0
StopsSearch held w before now (Files fault) =
    ExplainsTask held (task_words w) fault × (now ≡ before)
StopsSearch held w before now (Searching fault) =
    ((task : Task) × (d : Domain) × (p : Problem) × AreNamed held (task_words w) d p
    × IsSearched w.order (greatest_limits w.horizon) w.scale d p task) × (now ≡ before)
StopsSearch held w before now Write = SearchesSome held w before now

-- It stopped so with that status, and that was told. A file that can't be read and a failed write are ones that the counts of failures tell
-- of.
pub record EndsSearch (held : List ℕ → Option (List ℕ)) (w : SearchWords) (status : ℕ)
    (before now : Option (List ℕ)) (unread unread-now : ℕ) (output output-now : ℕ) (failures : ℕ)
    (said : Option (List ℕ))
    (failures-now : ℕ) (said-now : Option (List ℕ)) : Type 0 where
  pub stop : SearchStop
  pub is : stop_status stop ≡ status
  pub cause : StopsSearch held w before now stop
  pub opened : unread-now ≡ raised (stop_unread stop) unread
  pub write : output-now ≡ stop_failures {T = Unit {0}} output (Err stop)
  pub told : Tells (stop_text w stop) failures said failures-now said-now
