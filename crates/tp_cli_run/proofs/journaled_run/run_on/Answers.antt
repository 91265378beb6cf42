use Rattle.std.proofs.Common.{◌∙◌, ap, refl, sym}
use Rattle.tp_exec_machine.specs.Machine.{Machine}
use Rattle.tp_cli_bare.proofs.LoggedLemmas.{any_input}
use Rattle.tp_cli_run.specs.RunLines.{run_failures}
use Rattle.tp_cli_run.specs.StopLines.{run_stop_unlogged, run_stop_unread}
use Rattle.tp_cli_run.proofs.JournaledLemmas.{counted_telling, said_steps, told_fails, told_reads, unsaid_steps}
use Rattle.tp_cli_run.proofs.journaled_run.run_on.Goals as goal

pub returns-in-Ok-clause-said : goal.returns-in-Ok-clause-said
returns-in-Ok-clause-said g c =
    said_steps c.args.plan.now.task c.args.plan.now.steps c.args.network.now.horizon c.args.network.now c.requires _ _ _ _ _ c.in-Ok.executive c.in-Ok.ensures.whole (c.journaled.ensures.asked, c.in-Ok.ensures.named) c.tell_run.result c.of_telling.result c.of_telling.ensures c.tell_run.ensures.said

pub returns-in-Ok-clause-cause : goal.returns-in-Ok-clause-cause
returns-in-Ok-clause-cause g c =
    unsaid_steps c.args.plan.now.task c.args.plan.now.steps c.args.network.now.horizon c.args.network.now c.requires _ _ _ _ _ c.in-Ok.executive c.in-Ok.ensures.whole (c.journaled.ensures.asked, c.in-Ok.ensures.named) c.tell_run.result c.of_telling.result c.of_telling.ensures c.tell_run.ensures.cause

pub returns-in-Err-clause-cause : goal.returns-in-Err-clause-cause
returns-in-Err-clause-cause g c = record { net = c.args.network.now; is_net = c.requires; stops = c.in-Err.ensures.cause }

pub returns-in-Ok-clause-failures : goal.returns-in-Ok-clause-failures
returns-in-Ok-clause-failures g c =
    counted_telling c.args.plan.now.task c.args.plan.now.steps c.in-Ok.executive _ _ c.tell_run.result c.of_telling.result (g.O.Sink.failures c.args.output.now) _ c.of_telling.ensures c.tell_run.ensures.cause
    (c.tell_run.ensures.failures ∙ ap (λ n. run_failures n c.tell_run.result) c.in-Ok.ensures.told)

pub returns-in-Ok-clause-read : goal.returns-in-Ok-clause-read
returns-in-Ok-clause-read g c = c.in-Ok.ensures.read ∙ sym (told_reads c.tell_run.result c.of_telling.result _ c.of_telling.ensures)

pub returns-in-Err-clause-read : goal.returns-in-Err-clause-read
returns-in-Err-clause-read g c = c.in-Err.ensures.read ∙ any_input Machine (Unit {0}) c.in-Err.stop _

pub returns-in-Ok-clause-opened : goal.returns-in-Ok-clause-opened
returns-in-Ok-clause-opened g c = λ n. told_fails run_stop_unread refl refl c.tell_run.result c.of_telling.result n c.of_telling.ensures

pub returns-in-Ok-clause-log : goal.returns-in-Ok-clause-log
returns-in-Ok-clause-log g c = c.in-Ok.ensures.log ∙ sym (told_fails run_stop_unlogged refl refl c.tell_run.result c.of_telling.result _ c.of_telling.ensures)
