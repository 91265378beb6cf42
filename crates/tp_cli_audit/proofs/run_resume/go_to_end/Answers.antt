use Rattle.std.proofs.Common.{◌∙◌, ap, refl, sym}
use Rattle.tp_cli_run.specs.LogFile.{log_file}
use Rattle.tp_cli_run.specs.RunLines.{run_failures}
use Rattle.tp_cli_audit.specs.RunResumeStops.{run_resume_unlogged, run_resume_unread}
use Rattle.tp_cli_audit.proofs.Came.{runs_came}
use Rattle.tp_cli_audit.proofs.RunResumeLemmas.{counted_going, counted_on, heard_going, said_on, stopped_early, told_fails, told_reads, unsaid_on}
use Rattle.tp_cli_audit.proofs.run_resume.go_to_end.Goals as goal

pub tell_run-requires : goal.tell_run-requires
tell_run-requires g c = runs_came c.args.plan.now.task c.args.plan.now.steps 2 c.in-Ok.ensures.goes.entries c.args.run.executive c.in-Ok.executive c.requires c.in-Ok.ensures.goes.runs

pub returns-in-Ok-clause-said : goal.returns-in-Ok-clause-said
returns-in-Ok-clause-said g c =
    said_on c.args.plan.now.task c.args.plan.now.steps c.args.run.executive c.args.run.kept.items _ _ _ _ (log_file c.args.name.now (g.L.Logs.asked c.args.logs.now) (g.L.Logs.asked c.go_on.new.logs) (g.L.Logs.named c.go_on.new.logs) g.L.Logs.blank (g.L.Logs.kept c.go_on.new.logs)) c.in-Ok.executive c.in-Ok.ensures.goes c.in-Ok.ensures.named c.tell_run.result c.of_telling.result c.of_telling.ensures c.tell_run.ensures.said

pub returns-in-Ok-clause-cause : goal.returns-in-Ok-clause-cause
returns-in-Ok-clause-cause g c =
    unsaid_on c.args.plan.now.task c.args.plan.now.steps c.args.run.executive c.args.run.kept.items _ _ _ _ (log_file c.args.name.now (g.L.Logs.asked c.args.logs.now) (g.L.Logs.asked c.go_on.new.logs) (g.L.Logs.named c.go_on.new.logs) g.L.Logs.blank (g.L.Logs.kept c.go_on.new.logs)) c.in-Ok.executive c.in-Ok.ensures.goes c.in-Ok.ensures.named c.tell_run.result c.of_telling.result c.of_telling.ensures c.tell_run.ensures.cause

pub returns-in-Ok-clause-failures : goal.returns-in-Ok-clause-failures
returns-in-Ok-clause-failures g c =
    counted_on c.args.plan.now.task c.args.plan.now.steps c.in-Ok.executive _ _ c.tell_run.result c.of_telling.result (g.O.Sink.failures c.args.output.now) _ c.of_telling.ensures c.tell_run.ensures.cause
    (c.tell_run.ensures.failures ∙ ap (λ n. run_failures n c.tell_run.result) c.in-Ok.ensures.told)

pub returns-in-Err-clause-cause : goal.returns-in-Err-clause-cause
returns-in-Err-clause-cause g c = stopped_early c.args.run.executive c.args.run.kept.items _ _ _ (log_file c.args.name.now (g.L.Logs.asked c.args.logs.now) (g.L.Logs.asked c.go_on.new.logs) (g.L.Logs.named c.go_on.new.logs) g.L.Logs.blank (g.L.Logs.kept c.go_on.new.logs)) c.in-Err.stop c.in-Err.ensures.cause

pub returns-in-Err-clause-failures : goal.returns-in-Err-clause-failures
returns-in-Err-clause-failures g c = counted_going c.in-Err.stop _ _ c.in-Err.ensures.told

pub returns-in-Ok-clause-read : goal.returns-in-Ok-clause-read
returns-in-Ok-clause-read g c = c.in-Ok.ensures.read ∙ sym (told_reads c.tell_run.result c.of_telling.result _ c.of_telling.ensures)

pub returns-in-Err-clause-read : goal.returns-in-Err-clause-read
returns-in-Err-clause-read g c = heard_going c.in-Err.stop _ _ c.in-Err.ensures.read

pub returns-in-Ok-clause-opened : goal.returns-in-Ok-clause-opened
returns-in-Ok-clause-opened g c = λ n. told_fails run_resume_unread refl refl c.tell_run.result c.of_telling.result n c.of_telling.ensures

pub returns-in-Ok-clause-log : goal.returns-in-Ok-clause-log
returns-in-Ok-clause-log g c = c.in-Ok.ensures.log ∙ sym (told_fails run_resume_unlogged refl refl c.tell_run.result c.of_telling.result _ c.of_telling.ensures)
