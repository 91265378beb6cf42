use Rattle.std.proofs.Common.{sym}
use Rattle.std.proofs.lemmas.Result.{IfErr-weaker, IfOk-weaker}
use Rattle.tp_cli_audit.proofs.AuditLemmas.{no_write, said, stops, unsaid}
use Rattle.tp_cli_audit.proofs.bare.say_bare.Goals as goal

pub returns-in-Ok-clause-said : goal.returns-in-Ok-clause-said
returns-in-Ok-clause-said g c =
    IfOk-weaker c.say.result _ _ (λ b h. said b c.in-Ok.found (g.N.Files.held c.args.files.now c.args.log.now) _ _ c.in-Ok.ensures.found h) c.say.ensures.said

pub returns-in-Ok-clause-cause : goal.returns-in-Ok-clause-cause
returns-in-Ok-clause-cause g c =
    IfErr-weaker c.say.result _ _ (λ stop h. unsaid stop c.in-Ok.found (g.N.Files.held c.args.files.now c.args.log.now) _ _ c.in-Ok.ensures.found h) c.say.ensures.part

pub returns-in-Err-clause-cause : goal.returns-in-Err-clause-cause
returns-in-Err-clause-cause g c = stops c.in-Err.stop _ _ c.in-Err.ensures.cause

pub returns-in-Err-clause-failures : goal.returns-in-Err-clause-failures
returns-in-Err-clause-failures g c = sym (no_write c.in-Err.stop _ _ c.in-Err.ensures.cause)
