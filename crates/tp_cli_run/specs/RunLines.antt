-- The lines of what stops the run of a plan, and their exit statuses.
use Rattle.std.specs.Prelude.{ℕ, ◌+◌, List, Bool, false, Result, Ok, Err}
use Rattle.tp_deorder.specs.declared.DeorderFault.{DeorderFault}
use Rattle.tp_deorder.specs.declared.DeorderFault.TheVariants as deorder
use Rattle.tp_cli_files.specs.FaultLines.{line_of}
use Rattle.tp_cli_files.specs.declared.faults.Part.TheVariants as parts
use Rattle.tp_cli_files.specs.declared.faults.Fault.TheVariants as faults
use Rattle.tp_cli_bare.specs.Bare.{bare_failures, bare_read_failures}
use Rattle.tp_cli_bare.specs.ServeLines.{bare_status, bare_text}
use Rattle.tp_cli_inputs.specs.JudgeLines.{judge_status, judge_text, judge_unread}
use Rattle.tp_cli_inputs.specs.declared.plan_words.PlanWords.{PlanWords}
use Rattle.tp_cli_run.specs.declared.run_lines.RunStop.{RunStop}
use Rattle.tp_cli_run.specs.declared.run_lines.RunStop.TheVariants.{Judging, Network, Answering, Write}

abbrev pub network_status : DeorderFault → ℕ
network_status deorder.Memory = 3
network_status deorder.TooMany = 2

abbrev pub network_text : DeorderFault → List ℕ
network_text deorder.Memory = line_of (faults.Memory parts.Net)
network_text deorder.TooMany = line_of faults.NetTooMany

abbrev pub run_status : RunStop → ℕ
run_status (Judging fault) = judge_status fault
run_status (Network fault) = network_status fault
run_status (Answering fault) = bare_status fault
run_status Write = 3

abbrev pub run_text : PlanWords → RunStop → List ℕ
run_text w (Judging fault) = judge_text w fault
run_text w (Network fault) = network_text fault
run_text w (Answering fault) = bare_text fault
run_text w Write = line_of faults.ScriptWrite

-- a read of the input that failed is counted
abbrev pub run_reads : {T : Type 0} → ℕ → Result T RunStop → ℕ
run_reads n (Ok x) = n
run_reads n (Err (Judging fault)) = n
run_reads n (Err (Network fault)) = n
run_reads n (Err (Answering fault)) = bare_read_failures {T = Unit {0}} n (Err fault)
run_reads n (Err Write) = n

-- a write that failed is counted
abbrev pub run_failures : {T : Type 0} → ℕ → Result T RunStop → ℕ
run_failures n (Ok x) = n
run_failures n (Err (Judging fault)) = n
run_failures n (Err (Network fault)) = n
run_failures n (Err (Answering fault)) = bare_failures {T = Unit {0}} n (Err fault)
run_failures n (Err Write) = n + 1

-- a file can't be read
abbrev pub run_unread : RunStop → Bool
run_unread (Judging fault) = judge_unread fault
run_unread (Network fault) = false
run_unread (Answering fault) = false
run_unread Write = false
