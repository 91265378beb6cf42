use Rattle.std.proofs.Common.{refl, sym}
use Rattle.std.proofs.lemmas.Result.{IfErr-weaker, IfOk-weaker}
use Rattle.tp_cli_run.specs.LogFile.{log_file}
use Rattle.tp_cli_audit.proofs.RunResumeLemmas.{unsaid_invalid}
use Rattle.tp_cli_audit.proofs.run_resume.run_verdict.Goals as goal

pub returns-in-Invalid-clause-said : goal.returns-in-Invalid-clause-said
returns-in-Invalid-clause-said g c =
    rw c.in-Invalid.is (IfOk-weaker c.say_invalid.result _ _ (λ done h. (h.0, h.1, refl)) c.say_invalid.ensures.said)

pub returns-in-Invalid-clause-cause : goal.returns-in-Invalid-clause-cause
returns-in-Invalid-clause-cause g c =
    IfErr-weaker c.say_invalid.result _ _ (λ stop h. unsaid_invalid _ (g.O.Sink.held c.args.output.now) (g.O.Sink.held c.say_invalid.new.output) (log_file c.args.name.now (g.L.Logs.asked c.args.logs.now) (g.L.Logs.asked c.args.logs.now) (g.L.Logs.named c.args.logs.now) g.L.Logs.blank (g.L.Logs.kept c.args.logs.now)) stop refl h) c.say_invalid.ensures.cause

pub returns-in-Invalid-clause-read : goal.returns-in-Invalid-clause-read
returns-in-Invalid-clause-read g c = sym (c.say_invalid.ensures.unread _)

pub returns-in-Invalid-clause-log : goal.returns-in-Invalid-clause-log
returns-in-Invalid-clause-log g c = sym (c.say_invalid.ensures.unlogged _)
