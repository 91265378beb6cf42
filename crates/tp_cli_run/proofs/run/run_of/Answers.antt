use Rattle.std.proofs.Common.{refl}
use Rattle.std.proofs.lemmas.Result.{IfErr-weaker, IfOk-weaker}
use Rattle.tp_cli_inputs.proofs.NamedLemmas.{unjudged}
use Rattle.tp_cli_run.proofs.RunLemmas.{runs_named, stops_named}
use Rattle.tp_cli_run.proofs.run.run_of.Goals as goal

pub returns-in-Ok-clause-said : goal.returns-in-Ok-clause-said
returns-in-Ok-clause-said g c =
    λ held named.
    IfOk-weaker c.run_verdict.result _ _ (λ done h. runs_named held c.args.words c.args.task.now c.in-Ok.verdict _ _ _ done (c.args.plan, named, c.in-Ok.ensures.verdict) h) c.run_verdict.ensures.said

pub returns-in-Ok-clause-cause : goal.returns-in-Ok-clause-cause
returns-in-Ok-clause-cause g c =
    λ held named.
    IfErr-weaker c.run_verdict.result _ _ (λ stop h. stops_named held c.args.words c.args.task.now c.in-Ok.verdict _ _ _ stop (c.args.plan, named, c.in-Ok.ensures.verdict) h) c.run_verdict.ensures.cause

pub returns-in-Err-clause-cause : goal.returns-in-Err-clause-cause
returns-in-Err-clause-cause g c = λ held named. (unjudged held c.args.words c.args.task.now c.args.plan c.in-Err.fault named c.in-Err.ensures.cause, refl)
