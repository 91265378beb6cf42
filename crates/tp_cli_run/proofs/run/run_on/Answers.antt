use Rattle.std.proofs.Common.{◌∙◌, sym}
use Rattle.tp_exec_machine.specs.Machine.{Machine}
use Rattle.tp_cli_bare.proofs.BareLemmas.{no_more_reads}
use Rattle.std.proofs.lemmas.Result.{IfErr-weaker, IfOk-weaker}
use Rattle.tp_cli_run.proofs.RunLemmas.{ran_steps, stopped_steps, told_reads}
use Rattle.tp_cli_run.proofs.run.run_on.Goals as goal

pub returns-in-Ok-clause-said : goal.returns-in-Ok-clause-said
returns-in-Ok-clause-said g c =
    IfOk-weaker c.tell_run.result _ _ (λ done h. ran_steps c.args.plan.now.task c.args.plan.now.steps c.args.network.now.horizon c.args.network.now c.requires _ _ _ _ c.in-Ok.executive c.in-Ok.ensures.whole done h) c.tell_run.ensures.said

pub returns-in-Ok-clause-cause : goal.returns-in-Ok-clause-cause
returns-in-Ok-clause-cause g c =
    IfErr-weaker c.tell_run.result _ _ (λ stop h. stopped_steps c.args.plan.now.task c.args.plan.now.steps c.args.network.now.horizon c.args.network.now c.requires _ _ _ _ c.in-Ok.executive c.in-Ok.ensures.whole stop h) c.tell_run.ensures.cause

pub returns-in-Err-clause-cause : goal.returns-in-Err-clause-cause
returns-in-Err-clause-cause g c = record { net = c.args.network.now; is_net = c.requires; stops = c.in-Err.ensures.cause }

pub returns-in-Ok-clause-read : goal.returns-in-Ok-clause-read
returns-in-Ok-clause-read g c =
    c.in-Ok.ensures.read ∙ sym (told_reads c.args.plan.now.task c.args.plan.now.steps c.in-Ok.executive _ _ c.tell_run.result _ c.tell_run.ensures.cause)

pub returns-in-Err-clause-read : goal.returns-in-Err-clause-read
returns-in-Err-clause-read g c = c.in-Err.ensures.read ∙ no_more_reads Machine (Unit {0}) c.in-Err.fault _
