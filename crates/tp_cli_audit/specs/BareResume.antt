-- A run on a network of bounds alone that goes on.
use Rattle.std.specs.Prelude.{◌≡◌, ℕ, List, [], Option, Some, None, Bool, true, false, Result, Ok, Err, ◌⊎◌}
use Rattle.std.specs.Io.KnownBytes.{Appends}
use Rattle.tp_device.specs.Bytes.{AppendsPart}
use Rattle.tp_exec_machine.specs.Machine.{Machine}
use Rattle.tp_script.specs.Serving.{TakesLines}
use Rattle.tp_journal_pairs.specs.Journal.{Entry}
use Rattle.tp_journal_pairs.specs.Writing.{EntersAll}
use Rattle.tp_journal.specs.declared.faults.JournalHead.{JournalHead}
use Rattle.tp_cli_files.specs.Causes.{raised}
use Rattle.tp_cli_files.specs.FaultLines.{Tells}
use Rattle.tp_cli_audit.specs.Audits.{found_line}
use Rattle.tp_cli_audit.specs.Bare.{HindersBare, bare_machine}
use Rattle.tp_cli_audit.specs.declared.audit_lines.AuditStop.{AuditStop}
use Rattle.tp_cli_audit.specs.declared.audit_lines.AuditStop.TheVariants.{Write}
use Rattle.tp_cli_audit.specs.declared.auditing.Found.TheVariants as found
use Rattle.tp_cli_run.specs.LogFile.{LogFile, MadeNone}
use Rattle.tp_cli_audit.specs.Going.{Continues, StopsGoing}
use Rattle.tp_cli_audit.specs.Old.{IsKept, IsTaken, IsUnread}
use Rattle.tp_cli_audit.specs.ResumeStops.{resume_failures, resume_reads, resume_status, resume_text, resume_unlogged, resume_unread}
use Rattle.tp_cli_audit.specs.declared.old.Taken.{Taken}
use Rattle.tp_cli_audit.specs.declared.old.Taken.TheVariants.{Goes, Wrong}
use Rattle.tp_cli_audit.specs.declared.resume_stops.ResumeStop.{ResumeStop}
use Rattle.tp_cli_audit.specs.declared.resume_stops.ResumeStop.TheVariants.{Auditing, Lines, Making, Journaling}

-- ---- the journal

-- what was found of bytes against the machine that a head tells, of a network that came from no plan
abbrev pub IsTakenHead : JournalHead → List ℕ → Taken → Type 0
IsTakenHead head kept taken = (head.own ≡ None) × IsTaken (bare_machine head) kept taken

abbrev pub IsTakenBare : List ℕ → Taken → Type 0
IsTakenBare kept taken = (head : JournalHead) × IsTakenHead head kept taken

-- the same of the bytes of a file, up to its last whole pair
abbrev pub WentBare : Option (List ℕ) → Taken → Type 0
WentBare old taken = (kept : List ℕ) × IsKept old kept × IsTakenBare kept taken

-- the file gave no bytes, or these, up to its last whole pair, are refused as those of a journal are
abbrev pub HindersOld : Option (List ℕ) → AuditStop → Type 0
HindersOld old stop = IsUnread stop ⊎ ((kept : List ℕ) × IsKept old kept
    × HindersBare (Some kept) stop)

-- ---- what is written

-- the file holds a journal of a network of bounds alone, and perhaps a pair that was cut off; its run went on, and all commands of the
-- input were answered
abbrev pub ResumesBare : Option (List ℕ) → Option (List ℕ) → Option (List ℕ) → Option (List ℕ)
    → LogFile → Type 0
ResumesBare old input held now file =
    (kept : List ℕ) × IsKept old kept × (head : JournalHead) × (head.own ≡ None)
    × (last : Machine) × (text : List ℕ)
    × Continues kept input text file (bare_machine head) last × Appends held now text

-- an answer of the journal is not allowed: the number of its line was written, and no file was asked for
abbrev pub SaysWrongOld : Option (List ℕ) → Option (List ℕ) → Option (List ℕ) → LogFile → Type 0
SaysWrongOld old held now file =
    (n : ℕ) × WentBare old (Wrong n) × Appends held now (found_line (found.Wrong n)) × MadeNone file

abbrev pub SaysOld : Option (List ℕ) → Option (List ℕ) → Option (List ℕ) → Option (List ℕ)
    → LogFile → Bool → Type 0
SaysOld old input held now file true = ResumesBare old input held now file
SaysOld old input held now file false = SaysWrongOld old held now file

-- whether a run went on
abbrev pub ran_result : Result Machine ResumeStop → Result Bool ResumeStop
ran_result (Ok last) = Ok true
ran_result (Err stop) = Err stop

-- Why the run did not go on to its end, what was written by then, and what is in the new file. Where the journal is none no file was made.
abbrev pub StopsResumed : Option (List ℕ) → Option (List ℕ) → Option (List ℕ) → Option (List ℕ)
    → LogFile → ResumeStop → Type 0
StopsResumed old input held now file (Auditing stop) =
    MadeNone file × ((HindersOld old stop × (now ≡ held)) ⊎ ((stop ≡ Write)
    × ((n : ℕ) × WentBare old (Wrong n) × AppendsPart held now (found_line (found.Wrong n)))))
StopsResumed old input held now file Lines =
    (run : _) × WentBare old (Goes run)
    × StopsGoing run.executive run.kept.items input held now file Lines
StopsResumed old input held now file Making =
    (run : _) × WentBare old (Goes run)
    × StopsGoing run.executive run.kept.items input held now file Making
StopsResumed old input held now file (Journaling fault) =
    (run : _) × WentBare old (Goes run)
    × StopsGoing run.executive run.kept.items input held now file (Journaling fault)

-- It stopped so with that status, and that was told. A failed read of the input, a file that can't be read, a journal that can't be made
-- or written, and a failed write are ones that the counts of failures tell of.
pub record EndsResumed (old : Option (List ℕ)) (name : List ℕ) (status : ℕ)
    (input : Option (List ℕ)) (reads reads-now : ℕ) (held held-now : Option (List ℕ))
    (file : LogFile) (unread unread-now logs logs-now : ℕ) (output output-now : ℕ) (failures : ℕ)
    (before : Option (List ℕ))
    (failures-now : ℕ) (now : Option (List ℕ)) : Type 0 where
  pub stop : ResumeStop
  pub is : resume_status stop ≡ status
  pub cause : StopsResumed old input held held-now file stop
  pub read : reads-now ≡ resume_reads {T = Unit {0}} reads (Err stop)
  pub opened : unread-now ≡ raised (resume_unread stop) unread
  pub journal : logs-now ≡ raised (resume_unlogged stop) logs
  pub write : output-now ≡ resume_failures {T = Unit {0}} output (Err stop)
  pub told : Tells (resume_text name stop) failures before failures-now now

-- nothing was written, or a first part of the line that an answer of the journal is not allowed, or of the answers to some first lines of
-- the input
abbrev pub ResumesPart : Option (List ℕ) → Option (List ℕ) → Option (List ℕ) → Option (List ℕ)
    → Type 0
ResumesPart old input held now =
    Appends held now [] ⊎ (((n : ℕ) × WentBare old (Wrong n)
    × AppendsPart held now (found_line (found.Wrong n)))
    ⊎ ((run : _) × WentBare old (Goes run) × (left : Option (List ℕ)) × (lines : List (List ℕ))
    × (entries : List Entry) × (text : List ℕ) × (last : Machine) × TakesLines input left lines
    × EntersAll run.executive lines entries text last × AppendsPart held now text))
