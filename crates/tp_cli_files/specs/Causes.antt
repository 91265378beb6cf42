-- The calls of devices that failed, as faults tell them.
use Rattle.std.specs.Prelude.{ℕ, ◌+◌, Bool, true, false, if◌then◌else◌, Result, Ok, Err}
use Rattle.tp_cli_files.specs.declared.files.FileFault.{FileFault}
use Rattle.tp_cli_files.specs.declared.files.FileFault.TheVariants.{Memory, Read, Utf8, TooLong}

-- a count of failures, once a call ended with a fault that tells of a failure, or with another
abbrev pub raised : Bool → ℕ → ℕ
raised failed n = if failed then n + 1 else n

-- it rises by one exactly where a call ends with a fault that tells of a failure
abbrev pub counted : {T E : Type 0} → (E → Bool) → ℕ → Result T E → ℕ
counted failed n (Ok x) = n
counted failed n (Err e) = raised (failed e) n

-- a file can't be opened, or a read of it failed
abbrev pub file_unread : FileFault → Bool
file_unread Memory = false
file_unread Read = true
file_unread Utf8 = false
file_unread TooLong = false
