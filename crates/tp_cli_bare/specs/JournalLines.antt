-- The lines of what ends commands early whose journal is kept, and their exit statuses.
use Rattle.std.specs.Prelude.{ℕ, List, Bool, true, false}
use Rattle.tp_cli_files.specs.FaultLines.{line_of}
use Rattle.tp_cli_files.specs.declared.faults.Fault.TheVariants as faults
use Rattle.tp_journal_pairs.specs.declared.faults.JournalFault.{JournalFault}
use Rattle.tp_journal_pairs.specs.declared.faults.JournalFault.TheVariants.{Read, Write, Log, TooLong}
use Rattle.tp_cli_bare.specs.ServeLines.{bare_status, bare_text}
use Rattle.tp_cli_bare.specs.declared.journal_lines.JournalStop.{JournalStop}
use Rattle.tp_cli_bare.specs.declared.journal_lines.JournalStop.TheVariants.{Making, Beginning, Journaling}

abbrev pub journal_status : JournalFault → ℕ
journal_status Read = 3
journal_status Write = 3
journal_status Log = 3
journal_status TooLong = 2

abbrev pub journal_text : JournalFault → List ℕ
journal_text Read = line_of faults.ScriptRead
journal_text Write = line_of faults.ScriptWrite
journal_text Log = line_of faults.ScriptLog
journal_text TooLong = line_of faults.ScriptTooLong

abbrev pub stop_status : JournalStop → ℕ
stop_status Making = 3
stop_status (Beginning fault) = bare_status fault
stop_status (Journaling fault) = journal_status fault

abbrev pub stop_text : JournalStop → List ℕ
stop_text Making = line_of faults.ScriptLog
stop_text (Beginning fault) = bare_text fault
stop_text (Journaling fault) = journal_text fault

-- a write to the journal failed
abbrev pub journal_unlogged : JournalFault → Bool
journal_unlogged Read = false
journal_unlogged Write = false
journal_unlogged Log = true
journal_unlogged TooLong = false

-- the journal can't be made, or a write to it failed
abbrev pub stop_unlogged : JournalStop → Bool
stop_unlogged Making = true
stop_unlogged (Beginning fault) = false
stop_unlogged (Journaling fault) = journal_unlogged fault
