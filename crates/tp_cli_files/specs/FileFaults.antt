-- What is told of a file that gave no text.
use Rattle.std.specs.Prelude.{ℕ, List}
use Rattle.tp_cli_files.specs.FaultLines.{line_named, line_of}
use Rattle.tp_cli_files.specs.declared.faults.Part.{Part}
use Rattle.tp_cli_files.specs.declared.faults.Fault.TheVariants as faults
use Rattle.tp_cli_files.specs.declared.files.FileFault.{FileFault}
use Rattle.tp_cli_files.specs.declared.files.FileFault.TheVariants.{Memory, Read, Utf8, TooLong}

abbrev pub file_status : FileFault → ℕ
file_status Memory = 3
file_status Read = 3
file_status Utf8 = 2
file_status TooLong = 2

-- the line for a part of the input and the name of a file
abbrev pub file_text : Part → FileFault → List ℕ → List ℕ
file_text part Memory name = line_of (faults.Memory part)
file_text part Read name = line_named faults.FileRead name
file_text part Utf8 name = line_named faults.FileUtf8 name
file_text part TooLong name = line_named faults.FileTooLong name
