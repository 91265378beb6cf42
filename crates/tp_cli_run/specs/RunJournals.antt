-- The run of the plan in a file, with its journal in another.
use Rattle.std.specs.Prelude.{◌≡◌, ℕ, List, Option, Bool, true, false, Err, ◌⊎◌}
use Rattle.tp_bounds.specs.RunLimits.{greatest_limits}
use Rattle.tp_bounds.specs.declared.plan_nets.PlanNet.{PlanNet}
use Rattle.tp_task.specs.declared.task.Task.{Task}
use Rattle.tp_happen.specs.tp_plan_text.declared.plans.Step.{Step}
use Rattle.tp_deorder.specs.Answers.{IsPlanNetOf, OnTooMany, PassesLimits}
use Rattle.tp_exec_machine.specs.Machine.{Machine}
use Rattle.tp_cli_files.specs.Causes.{raised}
use Rattle.tp_cli_files.specs.FaultLines.{Tells}
use Rattle.tp_cli_inputs.specs.Causes.{Explains}
use Rattle.tp_cli_inputs.specs.declared.plan_words.PlanWords.{PlanWords}
use Rattle.tp_cli_bare.specs.declared.journal_lines.JournalStop.{JournalStop}
use Rattle.tp_cli_bare.specs.declared.journal_lines.JournalStop.TheVariants as journal
use Rattle.tp_cli_run.specs.Invalid.{SaysInvalid, SaysInvalidPart}
use Rattle.tp_cli_run.specs.Runs.{EndsInNone, EndsInPart, EndsInPlan, RunsNamed}
use Rattle.tp_cli_run.specs.LogFile.{AskedOnce, IsNamed, LogFile, MadeNone}
use Rattle.tp_cli_run.specs.Logged.{IsLogged, LogsWhole, StopsLogged}
use Rattle.tp_cli_run.specs.StopLines.{run_stop_failures, run_stop_reads, run_stop_status, run_stop_text, run_stop_unlogged, run_stop_unread}
use Rattle.tp_cli_run.specs.declared.stop_lines.RunJournalStop.{RunJournalStop}
use Rattle.tp_cli_run.specs.declared.stop_lines.RunJournalStop.TheVariants.{Judging, Network, Journal, Telling, Write}

-- All lines were answered on the network of a plan, and behind the answers stands the plan of the run, which is valid: just as without a
-- journal. The file of the name that was asked for holds the journal of that very run, and no other was made.
pub record LogsInPlan (task : Task) (steps : List Step) (horizon : ℕ)
    (input before now : Option (List ℕ)) (file : LogFile) : Type 0 where
  pub ends : EndsInPlan task steps horizon input before now
  pub logged : IsLogged ends.net ends.answered.setting ends.answered.lines ends.answers ends.last
      file.blank file.kept
  pub named : IsNamed file

-- the same of a run that has no plan
pub record LogsInNone (task : Task) (steps : List Step) (horizon : ℕ)
    (input before now : Option (List ℕ)) (file : LogFile) : Type 0 where
  pub ends : EndsInNone task steps horizon input before now
  pub logged : IsLogged ends.net ends.answered.setting ends.answered.lines ends.answers ends.last
      file.blank file.kept
  pub named : IsNamed file

-- the same of a run whose plan was written in part
pub record LogsInPart (task : Task) (steps : List Step) (horizon : ℕ)
    (input before now : Option (List ℕ)) (file : LogFile) : Type 0 where
  pub ends : EndsInPart task steps horizon input before now
  pub logged : IsLogged ends.net ends.answered.setting ends.answered.lines ends.answers ends.last
      file.blank file.kept
  pub named : IsNamed file

-- the same of a run for whose plan there was no memory
pub record LogsUntold (task : Task) (steps : List Step) (horizon : ℕ)
    (input before now : Option (List ℕ)) (file : LogFile) : Type 0 where
  pub net : PlanNet
  pub is_net : IsPlanNetOf task steps (greatest_limits horizon) net
  pub last : Machine
  pub whole : LogsWhole net input before now file.blank file.kept last
  pub named : IsNamed file

-- The journal file was asked for and not made, and nothing was written; or not all lines were answered with their journal in the file of
-- that name. No other file was made.
abbrev pub StopsInFile : PlanNet → Option (List ℕ) → Option (List ℕ) → Option (List ℕ) → LogFile
    → JournalStop → Type 0
StopsInFile net input before now file journal.Making = (now ≡ before) × AskedOnce file
StopsInFile net input before now file (journal.Beginning fault) =
    IsNamed file
    × StopsLogged net input before now file.blank file.kept (journal.Beginning fault)
StopsInFile net input before now file (journal.Journaling fault) =
    IsNamed file
    × StopsLogged net input before now file.blank file.kept (journal.Journaling fault)

pub record LogsEarly (task : Task) (steps : List Step) (horizon : ℕ)
    (input before now : Option (List ℕ)) (file : LogFile) (stop : JournalStop) : Type 0 where
  pub net : PlanNet
  pub is_net : IsPlanNetOf task steps (greatest_limits horizon) net
  pub stops : StopsInFile net input before now file stop

-- the plan that the words name was run to its end, the plan of the run was written, and the file holds the run's journal
abbrev pub LogsToPlan : (List ℕ → Option (List ℕ)) → PlanWords → Option (List ℕ) → Option (List ℕ)
    → Option (List ℕ) → LogFile → Type 0
LogsToPlan held w input before now file =
    RunsNamed held w (λ task steps. LogsInPlan task steps w.horizon input before now file)

-- The plan that the words name is not valid, and its first fault was written; then no file was made. Or it was run and the run has no plan,
-- and the file holds the run's journal
abbrev pub LogsToNone : (List ℕ → Option (List ℕ)) → PlanWords → Option (List ℕ) → Option (List ℕ)
    → Option (List ℕ) → LogFile → Type 0
LogsToNone held w input before now file =
    (SaysInvalid held w before now × MadeNone file)
    ⊎ RunsNamed held w (λ task steps. LogsInNone task steps w.horizon input before now file)

-- whether the run has a plan
abbrev pub LogsTo : (List ℕ → Option (List ℕ)) → PlanWords → Option (List ℕ) → Option (List ℕ)
    → Option (List ℕ) → LogFile → Bool → Type 0
LogsTo held w input before now file true = LogsToPlan held w input before now file
LogsTo held w input before now file false = LogsToNone held w input before now file

-- Why a run stopped, what was written by then, and what is in the file. Where the plan is not valid or has no network no file was made.
abbrev pub StopsRunLog : (List ℕ → Option (List ℕ)) → PlanWords → Option (List ℕ)
    → Option (List ℕ) → Option (List ℕ) → LogFile → RunJournalStop → Type 0
StopsRunLog held w input before now file (Judging fault) =
    Explains held w fault × (now ≡ before) × MadeNone file
StopsRunLog held w input before now file (Network fault) =
    RunsNamed held w (λ task steps. OnTooMany fault
    (PassesLimits (greatest_limits w.horizon) task steps)) × (now ≡ before)
    × MadeNone file
StopsRunLog held w input before now file (Journal stop) =
    RunsNamed held w (λ task steps. LogsEarly task steps w.horizon input before now file stop)
StopsRunLog held w input before now file Telling =
    RunsNamed held w (λ task steps. LogsUntold task steps w.horizon input before now file)
StopsRunLog held w input before now file Write =
    (SaysInvalidPart held w before now × MadeNone file)
    ⊎ RunsNamed held w (λ task steps. LogsInPart task steps w.horizon input before now file)

-- It stopped so with that status, and that was told. A failed read of the input, a file that can't be read, a journal that can't be made
-- or written, and a failed write are ones that the counts of failures tell of.
pub record EndsRunLog (held : List ℕ → Option (List ℕ)) (w : PlanWords) (status : ℕ)
    (input : Option (List ℕ)) (reads reads-now : ℕ) (before now : Option (List ℕ)) (file : LogFile)
    (unread unread-now logs logs-now : ℕ) (output output-now : ℕ) (failures : ℕ)
    (said : Option (List ℕ)) (failures-now : ℕ)
    (said-now : Option (List ℕ)) : Type 0 where
  pub stop : RunJournalStop
  pub is : run_stop_status stop ≡ status
  pub cause : StopsRunLog held w input before now file stop
  pub read : reads-now ≡ run_stop_reads {T = Unit {0}} reads (Err stop)
  pub opened : unread-now ≡ raised (run_stop_unread stop) unread
  pub journal : logs-now ≡ raised (run_stop_unlogged stop) logs
  pub write : output-now ≡ run_stop_failures {T = Unit {0}} output (Err stop)
  pub told : Tells (run_stop_text w stop) failures said failures-now said-now
