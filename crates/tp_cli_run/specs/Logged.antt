-- What is written for the commands on the network of a plan, and what their journal is.
use Rattle.std.specs.Prelude.{◌≡◌, ℕ, List, [], Option, Result, Ok, Err}
use Rattle.std.specs.Io.KnownBytes.{Appends}
use Rattle.tp_bounds.specs.Setting.{Setting}
use Rattle.tp_bounds.specs.declared.plan_nets.PlanNet.{PlanNet}
use Rattle.tp_exec_machine.specs.Machine.{Machine}
use Rattle.tp_script.specs.Pending.{Reading}
use Rattle.tp_script.specs.declared.serving.Served.{Served}
use Rattle.tp_journal_pairs.specs.Journal.{Entry, IsHead, Runs, head_of}
use Rattle.tp_journal_pairs.specs.Writing.{EntersAll, Journals, journal_bytes}
use Rattle.tp_journal_pairs.specs.declared.faults.JournalFault.{JournalFault}
use Rattle.tp_journal_pairs.specs.declared.faults.JournalFault.TheVariants.{Read, Write, Log, TooLong}
use Rattle.tp_cli_bare.specs.Bare.{TakesAllLags}
use Rattle.tp_cli_bare.specs.declared.journal_lines.JournalStop.{JournalStop}
use Rattle.tp_cli_bare.specs.declared.journal_lines.JournalStop.TheVariants.{Making, Beginning, Journaling}
use Rattle.tp_cli_run.specs.Answered.{Answered, AnswersMost, AnswersPart, AnswersSome, StopsAnswers}
use Rattle.tp_cli_run.specs.Starts.{BeginsRun, net_head, run_machine}

-- The log holds the journal of these lines on the network of a plan: the head of the machine in which the run began, which is one of the
-- format, and a pair for each line that has an answer
pub record IsLogged (net : PlanNet) (setting : Setting) (lines : List (List ℕ)) (text : List ℕ)
    (last : Machine) (log logged : Option (List ℕ)) : Type 0 where
  pub entries : List Entry
  pub entered : EntersAll (run_machine net setting) lines entries text last
  pub runs : Runs 2 (run_machine net setting) entries last
  pub head : IsHead (head_of 2 (run_machine net setting))
  pub logs : Appends log logged (journal_bytes (run_machine net setting) entries)

-- all lines were answered, as without a journal, and the log holds the journal of that very run
pub record LogsWhole (net : PlanNet) (input held now log logged : Option (List ℕ))
    (last : Machine) : Type 0 where
  pub text : List ℕ
  pub answered : Answered net input [] text last
  pub written : Appends held now text
  pub journal : IsLogged net answered.setting answered.lines text last log logged

-- All lines of lags were taken from the beginning of the input, and the lines behind these answered on the network of a plan with their
-- journal, up to what the result tells
pub record LogsLines (net : PlanNet) (input held now log logged : Option (List ℕ))
    (result : Result Served JournalFault) : Type 0 where
  pub setting : Setting
  pub start : Reading
  pub behind_lags : Reading
  pub after : Reading
  pub last : Machine
  pub from : start.rest ≡ input
  pub first : start.taken ≡ 0
  pub most : start.most ≡ 4_294_967_296
  pub lags : TakesAllLags (net_head net) start behind_lags setting
  pub still : after.most ≡ start.most
  pub head : IsHead (head_of 2 (run_machine net setting))
  pub journals : Journals
      (run_machine net setting) last behind_lags after held now log logged result

-- how far the answers went: those to some first lines went out, the last of them perhaps in part where a write failed
abbrev pub AnswersTill : PlanNet → Option (List ℕ) → Option (List ℕ) → Option (List ℕ)
    → JournalFault → Type 0
AnswersTill net input held now Read = AnswersSome net input held now
AnswersTill net input held now Write = AnswersPart net input held now
AnswersTill net input held now Log = AnswersSome net input held now
AnswersTill net input held now TooLong = AnswersMost net input held now

-- What stopped it, and how far it came. Before the lines behind the lags nothing was written, and nothing is in the log. Behind them the
-- lines were answered with their journal up to there.
abbrev pub StopsLogged : PlanNet → Option (List ℕ) → Option (List ℕ) → Option (List ℕ)
    → Option (List ℕ) → Option (List ℕ) → JournalStop → Type 0
StopsLogged net input held now log logged Making = ⊥
StopsLogged net input held now log logged (Beginning fault) =
    StopsAnswers net input held held fault × (now ≡ held) × (logged ≡ log)
StopsLogged net input held now log logged (Journaling fault) =
    AnswersTill net input held now fault × LogsLines net input held now log logged (Err fault)

-- what came of the lines at the beginning of a reading
abbrev pub LogsRun : PlanNet → Reading → Reading → Option (List ℕ) → Option (List ℕ)
    → Option (List ℕ) → Option (List ℕ) → Result Machine JournalStop → Type 0
LogsRun net before after held now log logged (Ok last) =
    (setting : Setting) × (mid : Reading) × (served : Served)
    × TakesAllLags (net_head net) before mid setting
    × IsHead (head_of 2 (run_machine net setting))
    × Journals (run_machine net setting) last mid after held now log logged (Ok served)
LogsRun net before after held now log logged (Err Making) = ⊥
LogsRun net before after held now log logged (Err (Beginning fault)) =
    BeginsRun net before after (Err fault) × (now ≡ held) × (logged ≡ log)
LogsRun net before after held now log logged (Err (Journaling fault)) =
    (setting : Setting) × (mid : Reading) × (last : Machine)
    × TakesAllLags (net_head net) before mid setting
    × IsHead (head_of 2 (run_machine net setting))
    × Journals (run_machine net setting) last mid after held now log logged (Err fault)
