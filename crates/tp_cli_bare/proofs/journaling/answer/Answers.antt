use Rattle.std.proofs.Common.{◌∙◌}
use Rattle.tp_exec_machine.specs.Machine.{Machine}
use Rattle.tp_cli_bare.proofs.BareLemmas.{no_more_reads}
use Rattle.tp_cli_bare.proofs.LoggedLemmas.{is_new, logs_from}
use Rattle.tp_cli_bare.proofs.journaling.answer.Goals as goal

pub journal-requires-clause-new : goal.journal-requires-clause-new
journal-requires-clause-new g c = is_new (c.args.events, c.args.horizon) c.args.lines.now c.begin.new.lines c.in-Ok.executive c.in-Ok.ensures.begins c.in-Ok.ensures.fresh

pub returns-in-Ok-clause-logs : goal.returns-in-Ok-clause-logs
returns-in-Ok-clause-logs g c =
    logs_from c.journal.result c.of_journal.result (c.args.events, c.args.horizon) c.in-Ok.executive c.journal.new.executive c.args.lines.now c.begin.new.lines c.journal.new.lines _ _ _ _ c.of_journal.ensures c.in-Ok.ensures.begins c.journal.ensures.journals

pub returns-in-Err-clause-read : goal.returns-in-Err-clause-read
returns-in-Err-clause-read g c = c.in-Err.ensures.read ∙ no_more_reads Machine (Unit {0}) c.in-Err.fault _
