use Rattle.std.proofs.Common.{◌∙◌}
use Rattle.tp_exec_machine.specs.Machine.{Machine}
use Rattle.tp_script.specs.declared.serving.Served.{Served}
use Rattle.tp_cli_bare.proofs.BareLemmas.{no_more_reads}
use Rattle.tp_cli_bare.proofs.LoggedLemmas.{logged_reads}
use Rattle.tp_task.specs.Bounds.{MeetsBounds}
use Rattle.tp_validate.specs.OfTask.{plan_of, scale_of, state_at}
use Rattle.tp_deorder.specs.Inequalities.{event_count_of}
use Rattle.tp_cli_run.proofs.AnswerLemmas.{transcript_keeps}
use Rattle.tp_cli_run.proofs.LoggedLemmas.{is_new, logs_all, logs_some}
use Rattle.tp_cli_run.proofs.journaling.log_lines.Goals as goal

pub journal-requires-clause-new : goal.journal-requires-clause-new
journal-requires-clause-new g c = is_new c.args.network.now c.in-Ok.executive c.in-Ok.ensures.new

pub returns-in-Ok-journal-clause-logs : goal.returns-in-Ok-journal-clause-logs
returns-in-Ok-journal-clause-logs g c =
    logs_all c.args.network.now c.in-Ok.executive c.journal.new.executive c.args.lines.now c.start.new.lines c.journal.new.lines _ _ _ _ c.in-Ok-journal.field-0 c.in-Ok.ensures.begins c.requires.bounds c.in-Ok-journal.ensures.head c.in-Ok-journal.ensures.journals

pub returns-in-Ok-journal-clause-came : goal.returns-in-Ok-journal-clause-came
returns-in-Ok-journal-clause-came g c =
    λ t steps net.
    let j = c.in-Ok-journal.ensures.journals in
    transcript_keeps (event_count_of (plan_of t steps)) (MeetsBounds (scale_of t) (state_at t steps) (plan_of t steps)) j.lines c.in-Ok.executive c.journal.new.executive j.text (c.in-Ok.ensures.came t steps net) j.transcript

pub returns-in-Err-journal-clause-logs : goal.returns-in-Err-journal-clause-logs
returns-in-Err-journal-clause-logs g c =
    logs_some c.args.network.now c.in-Ok.executive c.journal.new.executive c.args.lines.now c.start.new.lines c.journal.new.lines _ _ _ _ c.in-Err-journal.fault c.in-Ok.ensures.begins c.requires.bounds c.in-Err-journal.ensures.head c.in-Err-journal.ensures.journals

pub returns-in-Err-journal-clause-read : goal.returns-in-Err-journal-clause-read
returns-in-Err-journal-clause-read g c = logged_reads Served Machine c.in-Err-journal.fault _ _ _ c.in-Err-journal.ensures.read c.in-Ok.ensures.read

pub returns-in-Err-clause-read : goal.returns-in-Err-clause-read
returns-in-Err-clause-read g c = c.in-Err.ensures.read ∙ no_more_reads Machine (Unit {0}) c.in-Err.fault _
