use Rattle.std.proofs.Common.{refl}
use Rattle.std.proofs.lemmas.Result.{IfOk-weaker}
use Rattle.tp_cli_audit.proofs.RunResumeLemmas.{goes_named, none_early}
use Rattle.tp_cli_audit.proofs.run_resume.run_of.Goals as goal

pub returns-in-Ok-clause-said : goal.returns-in-Ok-clause-said
returns-in-Ok-clause-said g c =
    λ held named.
    IfOk-weaker c.run_verdict.result _ _ (λ done h. goes_named held c.args.words c.args.task.now c.in-Ok.verdict c.args.kept.items _ _ _ _ done (c.args.plan, named, c.in-Ok.ensures.verdict) h) c.run_verdict.ensures.said

pub returns-in-Err-clause-cause : goal.returns-in-Err-clause-cause
returns-in-Err-clause-cause g c = (none_early (g.O.Sink.held c.args.output.now), (refl, refl))
