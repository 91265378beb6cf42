-- What is written for a network and its commands, and what their journal is.
use Rattle.std.specs.Prelude.{◌≡◌, ℕ, ◌+◌, List, [], Option, Some, None, IfSome, Result, Ok, Err, ◌⊎◌}
use Rattle.std.specs.Io.KnownBytes.{Appends}
use Rattle.tp_bounds.specs.Setting.{Setting}
use Rattle.tp_exec_machine.specs.Machine.{Machine}
use Rattle.tp_script.specs.Pending.{Reading}
use Rattle.tp_script.specs.Serving.{TakesHead}
use Rattle.tp_script.specs.declared.serving.Served.{Served}
use Rattle.tp_script.specs.declared.serving.ServeFault.TheVariants as serving
use Rattle.tp_journal_pairs.specs.Journal.{Entry, Runs}
use Rattle.tp_journal_pairs.specs.Writing.{EntersAll, Journals, journal_bytes}
use Rattle.tp_journal_pairs.specs.declared.faults.JournalFault.{JournalFault}
use Rattle.tp_journal_pairs.specs.declared.faults.JournalFault.TheVariants.{Read, Write, Log, TooLong}
use Rattle.tp_cli_files.specs.Causes.{raised}
use Rattle.tp_cli_files.specs.FaultLines.{Tells}
use Rattle.tp_cli_bare.specs.Bare.{AnswersHead, BareStops, BeginsLines, TakesAllLags, bare_read_failures, first_machine}
use Rattle.tp_cli_bare.specs.declared.bare.BareFault.TheVariants.{Network, Serving}
use Rattle.tp_cli_bare.specs.JournalLines.{stop_status, stop_text, stop_unlogged}
use Rattle.tp_cli_bare.specs.declared.journal_lines.JournalStop.{JournalStop}
use Rattle.tp_cli_bare.specs.declared.journal_lines.JournalStop.TheVariants.{Making, Beginning, Journaling}

-- The first line is the head, lines of lags follow, and the transcript of all other lines was written. The log holds the journal of that
-- run: the head of the machine in which it began, and a pair for each line that has an answer
pub record LogsHead (bytes : List ℕ) (held now log logged : Option (List ℕ)) : Type 0 where
  pub answers : AnswersHead bytes held now
  pub entries : List Entry
  pub entered : EntersAll
      (first_machine answers.head answers.setting) answers.lines entries answers.text answers.last
  pub runs : Runs 2 (first_machine answers.head answers.setting) entries answers.last
  pub logs : Appends log logged (journal_bytes (first_machine answers.head answers.setting) entries)

-- the same, where the reader tells its bytes
abbrev pub LogsAll : Option (List ℕ) → Option (List ℕ) → Option (List ℕ) → Option (List ℕ)
    → Option (List ℕ) → Type 0
LogsAll None held now log logged = Unit {0}
LogsAll (Some bytes) held now log logged = LogsHead bytes held now log logged

-- A head and all lines of lags behind it were taken from the beginning of the input, and the lines behind these answered on that network
-- with their journal, up to what the result tells
pub record LogsLines (input held now log logged : Option (List ℕ))
    (result : Result Served JournalFault) : Type 0 where
  pub head : ℕ × ℕ
  pub setting : Setting
  pub start : Reading
  pub behind_head : Reading
  pub behind_lags : Reading
  pub after : Reading
  pub last : Machine
  pub from : start.rest ≡ input
  pub first : start.taken ≡ 0
  pub most : start.most ≡ 4_294_967_296
  pub takes : TakesHead start behind_head (Ok head)
  pub same : behind_head.most ≡ start.most
  pub lags : TakesAllLags head behind_head behind_lags setting
  pub still : after.most ≡ behind_head.most
  pub journals : Journals
      (first_machine head setting) last behind_lags after held now log logged result

-- What stopped it, and how far it came. No journal file was made, or nothing was read behind the head and the lags: then nothing was
-- written, and nothing is in the log. Or the lines behind them were answered with their journal up to there.
abbrev pub StopsLogged : Option (List ℕ) → Option (List ℕ) → Option (List ℕ) → Option (List ℕ)
    → Option (List ℕ) → JournalStop → Type 0
StopsLogged input held now log logged Making = now ≡ held
StopsLogged input held now log logged (Beginning fault) =
    BareStops input held held fault × (now ≡ held) × (logged ≡ log)
StopsLogged input held now log logged (Journaling fault) =
    LogsLines input held now log logged (Err fault)

-- the name that was asked for, and the one under which the file was made, if it was made: they are the same, where the latter is told
abbrev pub NamesFile : List ℕ → Option (List ℕ) → JournalStop → Type 0
NamesFile name named Making = Unit {0}
NamesFile name named (Beginning fault) = IfSome named (λ n. n ≡ name)
NamesFile name named (Journaling fault) = IfSome named (λ n. n ≡ name)

-- nothing was written, or the answers to the first lines behind the head and the lags, and their journal, as far as a fault let them
abbrev pub LogsPart : Option (List ℕ) → Option (List ℕ) → Option (List ℕ) → Option (List ℕ)
    → Option (List ℕ) → Type 0
LogsPart input held now log logged =
    (now ≡ held) ⊎ ((fault : JournalFault) × LogsLines input held now log logged (Err fault))

-- what came of the lines behind a head
abbrev pub LogsFrom : ℕ × ℕ → Reading → Reading → Option (List ℕ) → Option (List ℕ)
    → Option (List ℕ) → Option (List ℕ) → Result Served JournalStop → Type 0
LogsFrom head before after held now log logged (Ok served) =
    (setting : Setting) × (mid : Reading) × (last : Machine)
    × TakesAllLags head before mid setting
    × Journals (first_machine head setting) last mid after held now log logged (Ok served)
LogsFrom head before after held now log logged (Err Making) = ⊥
LogsFrom head before after held now log logged (Err (Beginning fault)) =
    BeginsLines head before after (Err fault) × (now ≡ held) × (logged ≡ log)
LogsFrom head before after held now log logged (Err (Journaling fault)) =
    (setting : Setting) × (mid : Reading) × (last : Machine)
    × TakesAllLags head before mid setting
    × Journals (first_machine head setting) last mid after held now log logged (Err fault)

abbrev pub logged_result : Result Served JournalFault → Result Served JournalStop
logged_result (Ok served) = Ok served
logged_result (Err fault) = Err (Journaling fault)

-- a write of the answers that failed is counted
abbrev pub output_failures : {T : Type 0} → ℕ → Result T JournalStop → ℕ
output_failures n (Ok x) = n
output_failures n (Err Making) = n
output_failures n (Err (Beginning Network)) = n
output_failures n (Err (Beginning (Serving serving.Read))) = n
output_failures n (Err (Beginning (Serving serving.Write))) = n
output_failures n (Err (Beginning (Serving serving.Memory))) = n
output_failures n (Err (Beginning (Serving serving.TooLong))) = n
output_failures n (Err (Beginning (Serving serving.Head))) = n
output_failures n (Err (Journaling Read)) = n
output_failures n (Err (Journaling Write)) = n + 1
output_failures n (Err (Journaling Log)) = n
output_failures n (Err (Journaling TooLong)) = n

-- a read of the input that failed is counted
abbrev pub input_failures : {T : Type 0} → ℕ → Result T JournalStop → ℕ
input_failures n (Ok x) = n
input_failures n (Err Making) = n
input_failures n (Err (Beginning fault)) = bare_read_failures {T = Unit {0}} n (Err fault)
input_failures n (Err (Journaling Read)) = n + 1
input_failures n (Err (Journaling Write)) = n
input_failures n (Err (Journaling Log)) = n
input_failures n (Err (Journaling TooLong)) = n

-- The stop that ended it with that status was told, and it is as it tells; a file that was made has the name that was asked for. A failed
-- read of the input, a journal that can't be made or written, and a failed write are ones that the counts of failures tell of.
pub record EndsJournaled (status : ℕ) (input : Option (List ℕ)) (reads reads-now : ℕ)
    (held held-now log logged : Option (List ℕ)) (name : List ℕ) (named : Option (List ℕ)) (logs logs-now : ℕ)
    (output output-now : ℕ) (failures : ℕ)
    (before : Option (List ℕ)) (failures-now : ℕ) (now : Option (List ℕ)) : Type 0 where
  pub stop : JournalStop
  pub is : stop_status stop ≡ status
  pub cause : StopsLogged input held held-now log logged stop
  pub names : NamesFile name named stop
  pub read : reads-now ≡ input_failures {T = Unit {0}} reads (Err stop)
  pub journal : logs-now ≡ raised (stop_unlogged stop) logs
  pub write : output-now ≡ output_failures {T = Unit {0}} output (Err stop)
  pub told : Tells (stop_text stop) failures before failures-now now
