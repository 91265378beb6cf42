use Rattle.std.proofs.Common.{sym}
use Rattle.std.proofs.lemmas.Result.{IfErr-weaker, IfOk-weaker}
use Rattle.tp_cli_audit.proofs.PlanAuditLemmas.{head_counts, head_stops, says_log, stops_log}
use Rattle.tp_cli_audit.proofs.run.audit_log.Goals as goal

pub returns-in-Ok-clause-said : goal.returns-in-Ok-clause-said
returns-in-Ok-clause-said g c =
    IfOk-weaker c.audit_opened.result _ _ (λ b h. says_log (g.N.Files.held c.head_in.new.files) (g.N.Files.held c.args.files.now) c.args.words c.args.log.now c.in-Ok.head _ _ b c.head_in.ensures.same c.in-Ok.ensures.head h) c.audit_opened.ensures.said

pub returns-in-Ok-clause-cause : goal.returns-in-Ok-clause-cause
returns-in-Ok-clause-cause g c =
    IfErr-weaker c.audit_opened.result _ _ (λ stop h. stops_log (g.N.Files.held c.head_in.new.files) (g.N.Files.held c.args.files.now) c.args.words c.args.log.now c.in-Ok.head _ _ stop c.head_in.ensures.same c.in-Ok.ensures.head h) c.audit_opened.ensures.cause

pub returns-in-Err-clause-cause : goal.returns-in-Err-clause-cause
returns-in-Err-clause-cause g c = head_stops (g.N.Files.held c.args.files.now) c.args.words _ _ c.in-Err.stop c.in-Err.ensures.cause

pub returns-in-Err-clause-failures : goal.returns-in-Err-clause-failures
returns-in-Err-clause-failures g c = sym (head_counts _ c.in-Err.stop _ c.in-Err.ensures.cause)
