use Rattle.std.proofs.Common.{refl}
use Rattle.std.proofs.lemmas.Result.{IfErr-weaker, IfOk-weaker}
use Rattle.tp_cli_inputs.proofs.NamedLemmas.{unjudged}
use Rattle.tp_cli.proofs.PlanLemmas.{shows, stops_shown}
use Rattle.tp_cli.proofs.net.show_of.Goals as goal

pub returns-in-Ok-clause-said : goal.returns-in-Ok-clause-said
returns-in-Ok-clause-said g c =
    λ held named.
    IfOk-weaker c.show.result _ _ (λ valid told. shows held c.args.words c.args.task.now c.in-Ok.verdict _ _ valid (c.args.plan, named, c.in-Ok.ensures.verdict) told) c.show.ensures.said

pub returns-in-Ok-clause-cause : goal.returns-in-Ok-clause-cause
returns-in-Ok-clause-cause g c =
    λ held named.
    IfErr-weaker c.show.result _ _ (λ stop told. stops_shown held c.args.words c.args.task.now c.in-Ok.verdict _ _ stop (c.args.plan, named, c.in-Ok.ensures.verdict) told) c.show.ensures.cause

pub returns-in-Err-clause-cause : goal.returns-in-Err-clause-cause
returns-in-Err-clause-cause g c = λ held named. (unjudged held c.args.words c.args.task.now c.args.plan c.in-Err.fault named c.in-Err.ensures.cause, refl)
