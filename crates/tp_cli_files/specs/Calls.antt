-- What is told of a call whose words were not taken.
use Rattle.std.specs.Prelude.{ℕ, List}
use Rattle.tp_cli_files.specs.FaultLines.{line_of}
use Rattle.tp_cli_files.specs.declared.faults.Fault.TheVariants.{ArgumentsMemory, ArgumentsWords}
use Rattle.tp_cli_files.specs.declared.host.CallFault.{CallFault}
use Rattle.tp_cli_files.specs.declared.host.CallFault.TheVariants.{Memory, NotText}

abbrev pub call_status : CallFault → ℕ
call_status Memory = 3
call_status NotText = 2

abbrev pub call_text : CallFault → List ℕ
call_text Memory = line_of ArgumentsMemory
call_text NotText = line_of ArgumentsWords
