-- A run that goes on where its journal ends.
use Rattle.std.specs.Prelude.{◌≡◌, ℕ, List, ◌++◌, drop, Option, Result, Ok, Err, IfSome, ◌⊎◌, codes}
use Rattle.std.specs.Io.KnownBytes.{Appends}
use Rattle.tp_device.specs.Bytes.{AppendsPart}
use Rattle.tp_exec_machine.specs.Machine.{Machine}
use Rattle.tp_script.specs.Pending.{Reading}
use Rattle.tp_script.specs.Transcript.{lines_of}
use Rattle.tp_journal_pairs.specs.Journal.{Entry, IsHead, Runs, head_of, journal_lines, text_of}
use Rattle.tp_journal_pairs.specs.Writing.{EntersAll, journal_bytes, pairs_text}
use Rattle.tp_journal_pairs.specs.GoingOn.{GoesOn}
use Rattle.tp_journal_pairs.specs.declared.faults.JournalFault.{JournalFault}
use Rattle.tp_journal_pairs.specs.declared.faults.JournalFault.TheVariants.{Log}
use Rattle.tp_cli_run.specs.LogFile.{AskedOnce, IsNamed, LogFile, MadeNone}
use Rattle.tp_cli_audit.specs.declared.resume_stops.ResumeStop.{ResumeStop}
use Rattle.tp_cli_audit.specs.declared.resume_stops.ResumeStop.TheVariants.{Auditing, Lines, Making, Journaling}

-- the bytes of a journal as one of version 2
abbrev pub begin_text : List ℕ → List ℕ
begin_text kept = codes "journal 2" ++ drop 9 kept

-- All lines of the input were answered, from that machine on, and the log holds the journal that was kept and a pair for each line that has
-- an answer
pub record GoesTo (mid : Machine) (kept : List ℕ) (input held now log logged : Option (List ℕ))
    (last : Machine) : Type 0 where
  pub lines : List (List ℕ)
  pub entries : List Entry
  pub text : List ℕ
  pub read : IfSome input (λ bytes. lines_of bytes ≡ lines)
  pub entered : EntersAll mid lines entries text last
  pub runs : Runs 2 mid entries last
  pub written : Appends held now text
  pub logs : Appends log logged (begin_text kept ++ pairs_text entries)

-- The log took no more than a first part of the journal that was kept, and nothing was written; or it took all of it, and the lines behind
-- were answered with their journal, up to the fault
abbrev pub StopsIn : Machine → List ℕ → Option (List ℕ) → Option (List ℕ) → Option (List ℕ)
    → Option (List ℕ) → Option (List ℕ) → JournalFault → Type 0
StopsIn mid kept input held now log logged fault =
    ((fault ≡ Log) × (now ≡ held) × AppendsPart log logged (begin_text kept))
    ⊎ ((before after : Reading) × (last : Machine) × (begun : Option (List ℕ))
    × (before.rest ≡ input) × Appends log begun (begin_text kept)
    × GoesOn mid last before after held now begun logged (Err fault))

-- no new journal was asked for, or none was made, and nothing was written; or a device failed behind that
abbrev pub StopsGoing : Machine → List ℕ → Option (List ℕ) → Option (List ℕ) → Option (List ℕ)
    → LogFile → ResumeStop → Type 0
StopsGoing mid kept input held now file (Auditing stop) = ⊥
StopsGoing mid kept input held now file Lines = (now ≡ held) × MadeNone file
StopsGoing mid kept input held now file Making = (now ≡ held) × AskedOnce file
StopsGoing mid kept input held now file (Journaling fault) =
    IsNamed file × StopsIn mid kept input held now file.blank file.kept fault

abbrev pub went_result : Result Machine JournalFault → Result Machine ResumeStop
went_result (Ok last) = Ok last
went_result (Err fault) = Err (Journaling fault)

-- The run of a journal went on: the bytes that were kept are a journal of the machine; the commands of the input were carried out from
-- where it ends, and answered by this text. The new file holds the journal of one run: the commands of both, one after another, from the
-- same beginning on. No other file was made.
pub record Continues (kept : List ℕ) (input : Option (List ℕ)) (text : List ℕ) (file : LogFile)
    (first last : Machine) : Type 0 where
  pub version : ℕ
  pub before : List Entry
  pub mid : Machine
  pub lines : List (List ℕ)
  pub entries : List Entry
  pub kept_is : kept ≡ text_of (journal_lines version first before)
  pub ran : Runs version first before mid
  pub read : IfSome input (λ bytes. lines_of bytes ≡ lines)
  pub entered : EntersAll mid lines entries text last
  pub head : IsHead (head_of 2 first)
  pub one_run : Runs 2 first (before ++ entries) last
  pub logs : Appends file.blank file.kept (journal_bytes first (before ++ entries))
  pub named : IsNamed file
