-- The texts of files.
use Rattle.std.specs.Prelude.{◌≡◌, ◌+◌, ◌<◌, ◌≤◌, ℕ, List, length, Option, Some, None, Result, Ok, Err}
use Rattle.std.specs.Io.KnownBytes.{ReadConsumes}
use Rattle.std.specs.Str.{IsUtf8}
use Rattle.tp_cli_files.specs.declared.files.FileFault.{FileFault}
use Rattle.tp_cli_files.specs.declared.files.FileFault.TheVariants.{Memory, Read, Utf8, TooLong}

-- the text is what a file holds, where that is told
abbrev pub HoldsText : Option (List ℕ) → List ℕ → Type 0
HoldsText None text = Unit {0}
HoldsText (Some bytes) text = (text ≡ bytes) × (length bytes ≤ 1048576)

-- why bytes that are told are no text
abbrev pub HasFaultIn : List ℕ → FileFault → Type 0
HasFaultIn bytes TooLong = 1048576 < length bytes
HasFaultIn bytes Utf8 = (length bytes ≤ 1048576) × (IsUtf8 bytes → ⊥)
HasFaultIn bytes Memory = Unit {0}
HasFaultIn bytes Read = Unit {0}

abbrev pub HasFault : Option (List ℕ) → FileFault → Type 0
HasFault None fault = Unit {0}
HasFault (Some bytes) fault = HasFaultIn bytes fault

-- a read gave some first part of these bytes, and an empty one only if there are none
abbrev pub ReadsKept : {E : Type 0} → List ℕ → Result ℕ E → List ℕ → Type 0
ReadsKept bytes result buffer =
    (left : List ℕ) × ReadConsumes (Some bytes) (Some left) result buffer
