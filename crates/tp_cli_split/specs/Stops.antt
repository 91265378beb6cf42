-- The lines of what stops a split, and their exit statuses.
use Rattle.std.specs.Prelude.{ℕ, ◌+◌, List, Bool, false, Result, Ok, Err}
use Rattle.tp_cli_files.specs.Causes.{file_unread}
use Rattle.tp_cli_files.specs.FaultLines.{line_at, line_of}
use Rattle.tp_cli_files.specs.declared.faults.Part.TheVariants as parts
use Rattle.tp_cli_files.specs.declared.faults.Fault.TheVariants as faults
use Rattle.tp_cli_files.specs.FileFaults.{file_status, file_text}
use Rattle.tp_cli_inputs.specs.JudgeLines.{judge_status, judge_text, judge_unread}
use Rattle.tp_cli_inputs.specs.declared.plan_words.PlanWords.{PlanWords}
use Rattle.tp_cli_run.specs.RunLines.{network_status, network_text}
use Rattle.tp_cli_split.specs.declared.stops.SplitStop.{SplitStop}
use Rattle.tp_cli_split.specs.declared.stops.SplitStop.TheVariants.{Judging, Network, Setting, OwnersFile, Owner, Agent, TooMany, Memory, Conflict, Write}

abbrev pub split_status : SplitStop → ℕ
split_status (Judging fault) = judge_status fault
split_status (Network fault) = network_status fault
split_status Setting = 3
split_status (OwnersFile fault) = file_status fault
split_status (Owner e) = 2
split_status (Agent a) = 2
split_status TooMany = 2
split_status Memory = 3
split_status Conflict = 2
split_status Write = 3

-- the line, where the words name a plan and this is the name of the file of the agents' numbers
abbrev pub split_text : PlanWords → List ℕ → SplitStop → List ℕ
split_text w owners (Judging fault) = judge_text w fault
split_text w owners (Network fault) = network_text fault
split_text w owners Setting = line_of (faults.Memory parts.Run)
split_text w owners (OwnersFile fault) = file_text parts.Split fault owners
split_text w owners (Owner e) = line_at faults.SplitOwner e
split_text w owners (Agent a) = line_at faults.SplitAgent a
split_text w owners TooMany = line_of faults.SplitTooMany
split_text w owners Memory = line_of (faults.Memory parts.Split)
split_text w owners Conflict = line_of faults.SplitConflict
split_text w owners Write = line_of faults.ScriptWrite

-- a write that failed is counted
abbrev pub split_failures : {T : Type 0} → ℕ → Result T SplitStop → ℕ
split_failures n (Ok x) = n
split_failures n (Err (Judging fault)) = n
split_failures n (Err (Network fault)) = n
split_failures n (Err Setting) = n
split_failures n (Err (OwnersFile fault)) = n
split_failures n (Err (Owner e)) = n
split_failures n (Err (Agent a)) = n
split_failures n (Err TooMany) = n
split_failures n (Err Memory) = n
split_failures n (Err Conflict) = n
split_failures n (Err Write) = n + 1

-- a file can't be read
abbrev pub split_unread : SplitStop → Bool
split_unread (Judging fault) = judge_unread fault
split_unread (Network fault) = false
split_unread Setting = false
split_unread (OwnersFile fault) = file_unread fault
split_unread (Owner e) = false
split_unread (Agent a) = false
split_unread TooMany = false
split_unread Memory = false
split_unread Conflict = false
split_unread Write = false
