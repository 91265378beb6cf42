use Rattle.std.proofs.Common.{inl, refl, sym}
use Rattle.std.proofs.lemmas.Result.{IfErr-weaker, IfOk-weaker}
use Rattle.tp_cli_run.specs.LogFile.{log_file}
use Rattle.tp_cli_audit.proofs.RunResumeLemmas.{ends_on, none_early, quiet_count, said_nowhere, unsaid_nowhere}
use Rattle.tp_cli_audit.proofs.run_resume.run_on.Goals as goal

pub go_to_end-requires : goal.go_to_end-requires
go_to_end-requires g c =
    let came = rw c.in-Ok-Goes.field-0-is at c.in-Ok-Goes.ensures.came in
    came c.args.plan.now.task c.args.plan.now.steps c.requires

pub returns-in-Ok-Goes-clause-said : goal.returns-in-Ok-Goes-clause-said
returns-in-Ok-Goes-clause-said g c =
    let taken = rw c.in-Ok-Goes.field-0-is at c.in-Ok-Goes.ensures.taken in
    IfOk-weaker c.go_to_end.result _ _ (λ done h. ends_on c.args.plan.now.task c.args.plan.now.steps c.args.network.now c.args.head.now c.args.kept.items c.in-Ok-Goes.run' _ _ _ (log_file c.args.name.now (g.L.Logs.asked c.args.logs.now) (g.L.Logs.asked c.go_to_end.new.logs) (g.L.Logs.named c.go_to_end.new.logs) g.L.Logs.blank (g.L.Logs.kept c.go_to_end.new.logs)) done c.requires taken.1 h) c.go_to_end.ensures.said

pub returns-in-Ok-Wrong-clause-said : goal.returns-in-Ok-Wrong-clause-said
returns-in-Ok-Wrong-clause-said g c =
    let taken = rw c.in-Ok-Wrong.field-0-is at c.in-Ok-Wrong.ensures.taken in
    IfOk-weaker c.say_wrong.result _ _ (λ done h. said_nowhere c.args.plan.now.task c.args.plan.now.steps c.args.network.now c.args.head.now c.args.kept.items c.in-Ok-Wrong.line _ _ _ (log_file c.args.name.now (g.L.Logs.asked c.args.logs.now) (g.L.Logs.asked c.args.logs.now) (g.L.Logs.named c.args.logs.now) g.L.Logs.blank (g.L.Logs.kept c.args.logs.now)) done c.requires taken.1 refl h) c.say_wrong.ensures.said

pub returns-in-Ok-Wrong-clause-cause : goal.returns-in-Ok-Wrong-clause-cause
returns-in-Ok-Wrong-clause-cause g c =
    IfErr-weaker c.say_wrong.result _ _ (λ stop h. unsaid_nowhere c.in-Ok-Wrong.line (g.O.Sink.held c.args.output.now) (g.O.Sink.held c.say_wrong.new.output) (log_file c.args.name.now (g.L.Logs.asked c.args.logs.now) (g.L.Logs.asked c.args.logs.now) (g.L.Logs.named c.args.logs.now) g.L.Logs.blank (g.L.Logs.kept c.args.logs.now)) stop refl h) c.say_wrong.ensures.cause

pub returns-in-Err-clause-cause : goal.returns-in-Err-clause-cause
returns-in-Err-clause-cause g c = (none_early (g.O.Sink.held c.args.output.now), (refl, inl refl))

pub returns-in-Err-clause-failures : goal.returns-in-Err-clause-failures
returns-in-Err-clause-failures g c = quiet_count c.in-Err.stop _ c.in-Err.ensures.quiet

pub returns-in-Ok-Wrong-clause-read : goal.returns-in-Ok-Wrong-clause-read
returns-in-Ok-Wrong-clause-read g c = sym (c.say_wrong.ensures.unread _)

pub returns-in-Ok-Wrong-clause-log : goal.returns-in-Ok-Wrong-clause-log
returns-in-Ok-Wrong-clause-log g c = sym (c.say_wrong.ensures.unlogged _)
