-- The lines of what hinders the audit of a plan's journal, and their exit statuses.
use Rattle.std.specs.Prelude.{ℕ, List, Bool, false, Result, Ok, Err}
use Rattle.tp_cli_audit.specs.AuditLines.{stop_status, stop_text, stop_unread}
use Rattle.tp_cli_audit.specs.Audits.{say_failures}
use Rattle.tp_cli_inputs.specs.JudgeLines.{judge_status, judge_text, judge_unread}
use Rattle.tp_cli_inputs.specs.declared.plan_words.PlanWords.{PlanWords}
use Rattle.tp_cli_run.specs.RunLines.{network_status, network_text}
use Rattle.tp_cli_audit.specs.declared.stop_lines.PlanAuditStop.{PlanAuditStop}
use Rattle.tp_cli_audit.specs.declared.stop_lines.PlanAuditStop.TheVariants.{Auditing, Judging, Deordering}

abbrev pub plan_stop_status : PlanAuditStop → ℕ
plan_stop_status (Auditing stop) = stop_status stop
plan_stop_status (Judging fault) = judge_status fault
plan_stop_status (Deordering fault) = network_status fault

-- the line for the name of the journal's file
abbrev pub plan_stop_text : List ℕ → PlanWords → PlanAuditStop → List ℕ
plan_stop_text log w (Auditing stop) = stop_text log stop
plan_stop_text log w (Judging fault) = judge_text w fault
plan_stop_text log w (Deordering fault) = network_text fault

-- a write that failed is counted
abbrev pub plan_stop_failures : {T : Type 0} → ℕ → Result T PlanAuditStop → ℕ
plan_stop_failures n (Ok x) = n
plan_stop_failures n (Err (Auditing stop)) = say_failures {T = Unit {0}} n (Err stop)
plan_stop_failures n (Err (Judging fault)) = n
plan_stop_failures n (Err (Deordering fault)) = n

-- a file can't be read
abbrev pub plan_stop_unread : PlanAuditStop → Bool
plan_stop_unread (Auditing stop) = stop_unread stop
plan_stop_unread (Judging fault) = judge_unread fault
plan_stop_unread (Deordering fault) = false
