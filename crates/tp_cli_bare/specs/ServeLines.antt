-- The lines of what ends commands early, and their exit statuses.
use Rattle.std.specs.Prelude.{ℕ, List}
use Rattle.tp_script.specs.declared.serving.ServeFault.{ServeFault}
use Rattle.tp_script.specs.declared.serving.ServeFault.TheVariants as serving
use Rattle.tp_cli_files.specs.FaultLines.{line_of}
use Rattle.tp_cli_files.specs.declared.faults.Part.TheVariants as parts
use Rattle.tp_cli_files.specs.declared.faults.Fault.TheVariants as faults
use Rattle.tp_cli_bare.specs.declared.bare.BareFault.{BareFault}
use Rattle.tp_cli_bare.specs.declared.bare.BareFault.TheVariants.{Network, Serving}

abbrev pub serve_status : ServeFault → ℕ
serve_status serving.Read = 3
serve_status serving.Write = 3
serve_status serving.Memory = 3
serve_status serving.TooLong = 2
serve_status serving.Head = 2

abbrev pub bare_status : BareFault → ℕ
bare_status Network = 3
bare_status (Serving fault) = serve_status fault

abbrev pub serve_text : ServeFault → List ℕ
serve_text serving.Read = line_of faults.ScriptRead
serve_text serving.Write = line_of faults.ScriptWrite
serve_text serving.Memory = line_of faults.ScriptMemory
serve_text serving.TooLong = line_of faults.ScriptTooLong
serve_text serving.Head = line_of faults.ScriptHead

abbrev pub bare_text : BareFault → List ℕ
bare_text Network = line_of (faults.Memory parts.Run)
bare_text (Serving fault) = serve_text fault
