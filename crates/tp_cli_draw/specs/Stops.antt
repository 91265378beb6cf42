-- The lines of what stops a picture, and their exit statuses.
use Rattle.std.specs.Prelude.{ℕ, ◌+◌, List, [], Option, Some, None, Bool, true, false, Result, Ok, Err, option_map}
use Rattle.tp_cli_files.specs.FaultLines.{line_of}
use Rattle.tp_cli_files.specs.declared.faults.Part.TheVariants as parts
use Rattle.tp_cli_files.specs.declared.faults.Fault.TheVariants as faults
use Rattle.tp_cli_inputs.specs.JudgeLines.{judge_status, judge_text, judge_unread}
use Rattle.tp_cli_run.specs.RunLines.{network_status, network_text}
use Rattle.tp_cli_audit.specs.AuditLines.{stop_status, stop_text, stop_unread}
use Rattle.tp_cli_draw.specs.Words.{plan_of}
use Rattle.tp_cli_inputs.specs.declared.draw_words.DrawWords.{DrawWords}
use Rattle.tp_cli_draw.specs.declared.replaying.ReplayStop.{ReplayStop}
use Rattle.tp_cli_draw.specs.declared.replaying.ReplayStop.TheVariants as replay
use Rattle.tp_cli_draw.specs.declared.stops.DrawStop.{DrawStop}
use Rattle.tp_cli_draw.specs.declared.stops.DrawStop.TheVariants.{Judging, Network, Executive, Journal, Memory, Write}

-- a name, empty where there is none
abbrev pub name_or : Option (List ℕ) → List ℕ
name_or None = []
name_or (Some name) = name

-- the name of the file of the journal
abbrev pub journal_name : DrawWords → List ℕ
journal_name w = name_or (option_map (λ s. s.now) w.journal)

abbrev pub draw_status : DrawStop → ℕ
draw_status (Judging fault) = judge_status fault
draw_status (Network fault) = network_status fault
draw_status Executive = 3
draw_status (Journal stop) = stop_status stop
draw_status Memory = 3
draw_status Write = 3

abbrev pub draw_text : DrawWords → DrawStop → List ℕ
draw_text w (Judging fault) = judge_text (plan_of w 0) fault
draw_text w (Network fault) = network_text fault
draw_text w Executive = line_of (faults.Memory parts.Run)
draw_text w (Journal stop) = stop_text (journal_name w) stop
draw_text w Memory = line_of (faults.Memory parts.Draw)
draw_text w Write = line_of faults.ScriptWrite

-- a write that failed is counted
abbrev pub draw_failures : {T : Type 0} → ℕ → Result T DrawStop → ℕ
draw_failures n (Ok x) = n
draw_failures n (Err (Judging fault)) = n
draw_failures n (Err (Network fault)) = n
draw_failures n (Err Executive) = n
draw_failures n (Err (Journal stop)) = n
draw_failures n (Err Memory) = n
draw_failures n (Err Write) = n + 1

-- a file can't be read
abbrev pub draw_unread : DrawStop → Bool
draw_unread (Judging fault) = judge_unread fault
draw_unread (Network fault) = false
draw_unread Executive = false
draw_unread (Journal stop) = stop_unread stop
draw_unread Memory = false
draw_unread Write = false

-- the file of a journal that was judged can't be read again
abbrev pub replay_unread : ReplayStop → Bool
replay_unread replay.Memory = false
replay_unread replay.Read = true
