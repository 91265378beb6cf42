-- The lines of what stops a run of a plan that goes on, and their exit statuses.
use Rattle.std.specs.Prelude.{ℕ, ◌+◌, List, Bool, false, Result, Ok, Err}
use Rattle.tp_cli_files.specs.FaultLines.{line_of}
use Rattle.tp_cli_files.specs.declared.faults.Part.TheVariants as parts
use Rattle.tp_cli_files.specs.declared.faults.Fault.TheVariants as faults
use Rattle.tp_cli_inputs.specs.JudgeLines.{judge_status, judge_text, judge_unread}
use Rattle.tp_cli_inputs.specs.declared.plan_words.PlanWords.{PlanWords}
use Rattle.tp_cli_run.specs.RunLines.{network_status, network_text}
use Rattle.tp_cli_audit.specs.ResumeStops.{resume_failures, resume_reads, resume_status, resume_text, resume_unlogged, resume_unread}
use Rattle.tp_cli_audit.specs.declared.run_resume_stops.RunResumeStop.{RunResumeStop}
use Rattle.tp_cli_audit.specs.declared.run_resume_stops.RunResumeStop.TheVariants.{Judging, Network, Resuming, Telling, Write}

abbrev pub run_resume_status : RunResumeStop → ℕ
run_resume_status (Judging fault) = judge_status fault
run_resume_status (Network fault) = network_status fault
run_resume_status (Resuming stop) = resume_status stop
run_resume_status Telling = 3
run_resume_status Write = 3

abbrev pub run_resume_text : PlanWords → List ℕ → RunResumeStop → List ℕ
run_resume_text w old (Judging fault) = judge_text w fault
run_resume_text w old (Network fault) = network_text fault
run_resume_text w old (Resuming stop) = resume_text old stop
run_resume_text w old Telling = line_of (faults.Memory parts.Run)
run_resume_text w old Write = line_of faults.ScriptWrite

-- a read of the input that failed is counted
abbrev pub run_resume_reads : {T : Type 0} → ℕ → Result T RunResumeStop → ℕ
run_resume_reads n (Ok x) = n
run_resume_reads n (Err (Judging fault)) = n
run_resume_reads n (Err (Network fault)) = n
run_resume_reads n (Err (Resuming stop)) = resume_reads {T = Unit {0}} n (Err stop)
run_resume_reads n (Err Telling) = n
run_resume_reads n (Err Write) = n

-- a write of the output that failed is counted
abbrev pub run_resume_failures : {T : Type 0} → ℕ → Result T RunResumeStop → ℕ
run_resume_failures n (Ok x) = n
run_resume_failures n (Err (Judging fault)) = n
run_resume_failures n (Err (Network fault)) = n
run_resume_failures n (Err (Resuming stop)) = resume_failures {T = Unit {0}} n (Err stop)
run_resume_failures n (Err Telling) = n
run_resume_failures n (Err Write) = n + 1

-- a file can't be read
abbrev pub run_resume_unread : RunResumeStop → Bool
run_resume_unread (Judging fault) = judge_unread fault
run_resume_unread (Network fault) = false
run_resume_unread (Resuming stop) = resume_unread stop
run_resume_unread Telling = false
run_resume_unread Write = false

-- the new journal can't be made, or a write to it failed
abbrev pub run_resume_unlogged : RunResumeStop → Bool
run_resume_unlogged (Judging fault) = false
run_resume_unlogged (Network fault) = false
run_resume_unlogged (Resuming stop) = resume_unlogged stop
run_resume_unlogged Telling = false
run_resume_unlogged Write = false
