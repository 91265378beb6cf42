-- The commands of the input, with their journal in a file.
use Rattle.std.specs.Prelude.{◌≡◌, ℕ, List, [], Option, IfSome, Err, ◌⊎◌}
use Rattle.std.specs.Io.KnownBytes.{Appends}
use Rattle.tp_journal_pairs.specs.declared.faults.JournalFault.{JournalFault}
use Rattle.tp_cli_bare.specs.Logged.{LogsAll, LogsLines}
use Rattle.tp_cli_inputs.specs.declared.plan_words.PlanWords.{PlanWords}
use Rattle.tp_cli_args.specs.Requests.{AsksFor}
use Rattle.tp_cli_args.specs.declared.requests.Request.TheVariants.{BareLog, BareResume, RunLog, RunResume}
use Rattle.tp_cli_run.specs.LogFile.{AskedOnce}
use Rattle.tp_cli.specs.CallFiles.{CallFiles, journal_file}

-- the words ask for no journal
pub record AsksForNoJournal (words : List (List ℕ)) : Type 0 where
  pub no_log : (log : _) → AsksFor words (BareLog log) → ⊥
  pub no_resume : (old : _) (log : _) → AsksFor words (BareResume old log) → ⊥
  pub no_run_log : (w : PlanWords) (log : _) → AsksFor words (RunLog w log) → ⊥
  pub no_run_resume :
      (w : PlanWords) (old : _) (log : _) → AsksFor words (RunResume w old log) → ⊥

-- all commands were answered, and the file of that name, which was made anew, holds the journal of that run; no other was made
abbrev pub LogsTo : CallFiles → List ℕ → Option (List ℕ) → Option (List ℕ) → Option (List ℕ)
    → Type 0
LogsTo files name input held now =
    LogsAll input held now files.blank files.kept × IfSome files.named (λ n. n ≡ name)
    × AskedOnce (journal_file name files)

-- nothing was written, or the answers to the first lines behind the head and the lags, and their journal, as far as a fault let them
abbrev pub LogsSome : CallFiles → Option (List ℕ) → Option (List ℕ) → Option (List ℕ) → Type 0
LogsSome files input held now =
    Appends held now [] ⊎ ((fault : JournalFault)
    × LogsLines input held now files.blank files.kept (Err fault))
