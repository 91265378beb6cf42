use Rattle.std.proofs.Common.{◌∙◌, inl, refl, sym}
use Rattle.std.proofs.lemmas.Result.{IfErr-weaker, IfOk-weaker}
use Rattle.tp_cli_run.specs.LogFile.{log_file}
use Rattle.tp_cli_audit.proofs.BareResumeLemmas.{counted_ran, heard_ran, quiet_old, ran_count, said_old, stopped_ran, unsaid_old, went_ran}
use Rattle.tp_cli_audit.specs.ResumeStops.{resume_unlogged, resume_unread}
use Rattle.tp_cli_audit.proofs.bare_resume.resume.Goals as goal

pub returns-in-Ok-Goes-clause-went : goal.returns-in-Ok-Goes-clause-went
returns-in-Ok-Goes-clause-went g c =
    went_ran (g.N.Files.held c.args.files.now c.args.old.now) _ _ _ (log_file c.args.name.now (g.L.Logs.asked c.args.logs.now) (g.L.Logs.asked c.go_on.new.logs) (g.L.Logs.named c.go_on.new.logs) g.L.Logs.blank (g.L.Logs.kept c.go_on.new.logs)) c.in-Ok-Goes.run' (rw c.in-Ok-Goes.field-0-is at c.in-Ok-Goes.ensures.taken) c.go_on.result c.ran_on.result c.ran_on.ensures c.go_on.ensures.goes c.go_on.ensures.named

pub returns-in-Ok-Goes-clause-cause : goal.returns-in-Ok-Goes-clause-cause
returns-in-Ok-Goes-clause-cause g c =
    stopped_ran (g.N.Files.held c.args.files.now c.args.old.now) _ _ _ (log_file c.args.name.now (g.L.Logs.asked c.args.logs.now) (g.L.Logs.asked c.go_on.new.logs) (g.L.Logs.named c.go_on.new.logs) g.L.Logs.blank (g.L.Logs.kept c.go_on.new.logs)) c.in-Ok-Goes.run' (rw c.in-Ok-Goes.field-0-is at c.in-Ok-Goes.ensures.taken) c.go_on.result c.ran_on.result c.ran_on.ensures c.go_on.ensures.cause

pub returns-in-Ok-Goes-clause-told : goal.returns-in-Ok-Goes-clause-told
returns-in-Ok-Goes-clause-told g c = counted_ran c.go_on.result c.ran_on.result _ _ c.ran_on.ensures c.go_on.ensures.told

pub returns-in-Ok-Wrong-clause-went : goal.returns-in-Ok-Wrong-clause-went
returns-in-Ok-Wrong-clause-went g c =
    IfOk-weaker c.say_wrong.result _ _ (λ went h. said_old (g.N.Files.held c.args.files.now c.args.old.now) _ _ _ _ c.in-Ok-Wrong.line went (rw c.in-Ok-Wrong.field-0-is at c.in-Ok-Wrong.ensures.taken) refl h) c.say_wrong.ensures.said

pub returns-in-Ok-Wrong-clause-cause : goal.returns-in-Ok-Wrong-clause-cause
returns-in-Ok-Wrong-clause-cause g c =
    IfErr-weaker c.say_wrong.result _ _ (λ stop h. unsaid_old (g.N.Files.held c.args.files.now c.args.old.now) _ _ _ _ c.in-Ok-Wrong.line stop (rw c.in-Ok-Wrong.field-0-is at c.in-Ok-Wrong.ensures.taken) refl h) c.say_wrong.ensures.cause

pub returns-in-Err-clause-cause : goal.returns-in-Err-clause-cause
returns-in-Err-clause-cause g c = (refl, inl (c.in-Err.ensures.cause, refl))

pub returns-in-Err-clause-told : goal.returns-in-Err-clause-told
returns-in-Err-clause-told g c = quiet_old (g.N.Files.held c.args.files.now c.args.old.now) c.in-Err.stop _ c.in-Err.ensures.cause

pub returns-in-Ok-Goes-clause-read : goal.returns-in-Ok-Goes-clause-read
returns-in-Ok-Goes-clause-read g c = heard_ran c.go_on.result c.ran_on.result _ _ c.ran_on.ensures c.go_on.ensures.read

pub returns-in-Ok-Wrong-clause-read : goal.returns-in-Ok-Wrong-clause-read
returns-in-Ok-Wrong-clause-read g c = sym (c.say_wrong.ensures.unread _)

pub returns-in-Ok-Goes-clause-opened : goal.returns-in-Ok-Goes-clause-opened
returns-in-Ok-Goes-clause-opened g c =
    c.in-Ok-Goes.ensures.opened ∙ (sym (c.go_on.ensures.opened _) ∙ ran_count resume_unread c.go_on.result c.ran_on.result _ c.ran_on.ensures)

pub returns-in-Ok-Goes-clause-log : goal.returns-in-Ok-Goes-clause-log
returns-in-Ok-Goes-clause-log g c = c.go_on.ensures.log ∙ ran_count resume_unlogged c.go_on.result c.ran_on.result _ c.ran_on.ensures

pub returns-in-Ok-Wrong-clause-opened : goal.returns-in-Ok-Wrong-clause-opened
returns-in-Ok-Wrong-clause-opened g c = c.in-Ok-Wrong.ensures.opened ∙ sym (c.say_wrong.ensures.opened _)

pub returns-in-Ok-Wrong-clause-log : goal.returns-in-Ok-Wrong-clause-log
returns-in-Ok-Wrong-clause-log g c = sym (c.say_wrong.ensures.unlogged _)
