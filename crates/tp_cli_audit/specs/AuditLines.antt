-- The lines of what hinders an audit, and their exit statuses.
use Rattle.std.specs.Prelude.{ℕ, List, Bool, true, false}
use Rattle.tp_cli_files.specs.FaultLines.{line_at, line_named, line_of}
use Rattle.tp_cli_files.specs.declared.faults.Part.TheVariants as parts
use Rattle.tp_cli_files.specs.declared.faults.Fault.TheVariants as faults
use Rattle.tp_cli_audit.specs.declared.audit_lines.AuditStop.{AuditStop}
use Rattle.tp_cli_audit.specs.declared.audit_lines.AuditStop.TheVariants.{Open, Network, Memory, Read, Line, Head, Write}

abbrev pub stop_status : AuditStop → ℕ
stop_status Open = 3
stop_status Network = 3
stop_status Memory = 3
stop_status Read = 3
stop_status (Line n) = 2
stop_status Head = 2
stop_status Write = 3

-- the line for the name of the journal's file
abbrev pub stop_text : List ℕ → AuditStop → List ℕ
stop_text log Open = line_named faults.FileRead log
stop_text log Network = line_of (faults.Memory parts.Run)
stop_text log Memory = line_of (faults.Memory parts.Journal)
stop_text log Read = line_of faults.JournalRead
stop_text log (Line n) = line_at faults.JournalLine n
stop_text log Head = line_of faults.JournalHead
stop_text log Write = line_of faults.ScriptWrite

-- the file can't be read
abbrev pub stop_unread : AuditStop → Bool
stop_unread Open = true
stop_unread Network = false
stop_unread Memory = false
stop_unread Read = true
stop_unread (Line n) = false
stop_unread Head = false
stop_unread Write = false
