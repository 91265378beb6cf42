-- The lines of what stops a run that goes on, and their exit statuses.
use Rattle.std.specs.Prelude.{ℕ, ◌+◌, List, Bool, true, false, Result, Ok, Err}
use Rattle.tp_cli_files.specs.FaultLines.{line_of}
use Rattle.tp_cli_files.specs.declared.faults.Fault.TheVariants as faults
use Rattle.tp_journal_pairs.specs.declared.faults.JournalFault.TheVariants as journal
use Rattle.tp_cli_audit.specs.AuditLines.{stop_status, stop_text, stop_unread}
use Rattle.tp_cli_audit.specs.Audits.{say_failures}
use Rattle.tp_cli_bare.specs.JournalLines.{journal_status, journal_text, journal_unlogged}
use Rattle.tp_cli_audit.specs.declared.resume_stops.ResumeStop.{ResumeStop}
use Rattle.tp_cli_audit.specs.declared.resume_stops.ResumeStop.TheVariants.{Auditing, Lines, Making, Journaling}

abbrev pub resume_status : ResumeStop → ℕ
resume_status (Auditing stop) = stop_status stop
resume_status Lines = 3
resume_status Making = 3
resume_status (Journaling fault) = journal_status fault

-- the line, where this is the name of the file of the journal that the run goes on from
abbrev pub resume_text : List ℕ → ResumeStop → List ℕ
resume_text old (Auditing stop) = stop_text old stop
resume_text old Lines = line_of faults.ScriptMemory
resume_text old Making = line_of faults.ScriptLog
resume_text old (Journaling fault) = journal_text fault

-- a read of the input that failed is counted
abbrev pub resume_reads : {T : Type 0} → ℕ → Result T ResumeStop → ℕ
resume_reads n (Ok x) = n
resume_reads n (Err (Auditing stop)) = n
resume_reads n (Err Lines) = n
resume_reads n (Err Making) = n
resume_reads n (Err (Journaling journal.Read)) = n + 1
resume_reads n (Err (Journaling journal.Write)) = n
resume_reads n (Err (Journaling journal.Log)) = n
resume_reads n (Err (Journaling journal.TooLong)) = n

-- a write of the output that failed is counted
abbrev pub resume_failures : {T : Type 0} → ℕ → Result T ResumeStop → ℕ
resume_failures n (Ok x) = n
resume_failures n (Err (Auditing stop)) = say_failures {T = Unit {0}} n (Err stop)
resume_failures n (Err Lines) = n
resume_failures n (Err Making) = n
resume_failures n (Err (Journaling journal.Read)) = n
resume_failures n (Err (Journaling journal.Write)) = n + 1
resume_failures n (Err (Journaling journal.Log)) = n
resume_failures n (Err (Journaling journal.TooLong)) = n

-- the file of the journal can't be read
abbrev pub resume_unread : ResumeStop → Bool
resume_unread (Auditing stop) = stop_unread stop
resume_unread Lines = false
resume_unread Making = false
resume_unread (Journaling fault) = false

-- the new journal can't be made, or a write to it failed
abbrev pub resume_unlogged : ResumeStop → Bool
resume_unlogged (Auditing stop) = false
resume_unlogged Lines = false
resume_unlogged Making = true
resume_unlogged (Journaling fault) = journal_unlogged fault
