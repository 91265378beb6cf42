-- The lines of what stops the run of a plan whose journal is kept, and their exit statuses.
use Rattle.std.specs.Prelude.{ℕ, ◌+◌, List, Bool, false, Result, Ok, Err}
use Rattle.tp_cli_files.specs.FaultLines.{line_of}
use Rattle.tp_cli_files.specs.declared.faults.Part.TheVariants as parts
use Rattle.tp_cli_files.specs.declared.faults.Fault.TheVariants as faults
use Rattle.tp_cli_bare.specs.JournalLines.{stop_status, stop_text, stop_unlogged}
use Rattle.tp_cli_bare.specs.Logged.{input_failures, output_failures}
use Rattle.tp_cli_inputs.specs.JudgeLines.{judge_status, judge_text, judge_unread}
use Rattle.tp_cli_inputs.specs.declared.plan_words.PlanWords.{PlanWords}
use Rattle.tp_cli_run.specs.RunLines.{network_status, network_text}
use Rattle.tp_cli_run.specs.declared.stop_lines.RunJournalStop.{RunJournalStop}
use Rattle.tp_cli_run.specs.declared.stop_lines.RunJournalStop.TheVariants.{Judging, Network, Journal, Telling, Write}

abbrev pub run_stop_status : RunJournalStop → ℕ
run_stop_status (Judging fault) = judge_status fault
run_stop_status (Network fault) = network_status fault
run_stop_status (Journal stop) = stop_status stop
run_stop_status Telling = 3
run_stop_status Write = 3

abbrev pub run_stop_text : PlanWords → RunJournalStop → List ℕ
run_stop_text w (Judging fault) = judge_text w fault
run_stop_text w (Network fault) = network_text fault
run_stop_text w (Journal stop) = stop_text stop
run_stop_text w Telling = line_of (faults.Memory parts.Run)
run_stop_text w Write = line_of faults.ScriptWrite

-- a read of the input that failed is counted
abbrev pub run_stop_reads : {T : Type 0} → ℕ → Result T RunJournalStop → ℕ
run_stop_reads n (Ok x) = n
run_stop_reads n (Err (Judging fault)) = n
run_stop_reads n (Err (Network fault)) = n
run_stop_reads n (Err (Journal stop)) = input_failures {T = Unit {0}} n (Err stop)
run_stop_reads n (Err Telling) = n
run_stop_reads n (Err Write) = n

-- a write of the output that failed is counted
abbrev pub run_stop_failures : {T : Type 0} → ℕ → Result T RunJournalStop → ℕ
run_stop_failures n (Ok x) = n
run_stop_failures n (Err (Judging fault)) = n
run_stop_failures n (Err (Network fault)) = n
run_stop_failures n (Err (Journal stop)) = output_failures {T = Unit {0}} n (Err stop)
run_stop_failures n (Err Telling) = n
run_stop_failures n (Err Write) = n + 1

-- a file can't be read
abbrev pub run_stop_unread : RunJournalStop → Bool
run_stop_unread (Judging fault) = judge_unread fault
run_stop_unread (Network fault) = false
run_stop_unread (Journal stop) = false
run_stop_unread Telling = false
run_stop_unread Write = false

-- the journal can't be made, or a write to it failed
abbrev pub run_stop_unlogged : RunJournalStop → Bool
run_stop_unlogged (Judging fault) = false
run_stop_unlogged (Network fault) = false
run_stop_unlogged (Journal stop) = stop_unlogged stop
run_stop_unlogged Telling = false
run_stop_unlogged Write = false
