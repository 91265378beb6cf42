use Rattle.std.proofs.Common.{refl, subst, Option, List, ℕ, sym}
use Rattle.std.proofs.lemmas.Result.{IfErr-weaker, IfOk-weaker}
use Rattle.tp_cli_inputs.proofs.NamedLemmas.{unjudged}
use Rattle.tp_cli_split.specs.Splits.{StopsTelling, TellsSplit}
use Rattle.tp_cli_split.proofs.SplitLemmas.{splits_named, stops_named}
use Rattle.tp_cli_split.proofs.splitting.split_of.Goals as goal

pub returns-in-Ok-clause-said : goal.returns-in-Ok-clause-said
returns-in-Ok-clause-said g c =
    λ held same named.
    IfOk-weaker c.tell.result _ _ (λ valid h. splits_named c.args.agent held c.args.words c.args.owners.now c.args.task.now c.in-Ok.verdict _ _ valid (c.args.plan, named, c.in-Ok.ensures.verdict)
    (subst (λ (is : Option (List ℕ)). TellsSplit c.args.agent c.in-Ok.verdict c.args.words.horizon is (g.O.Sink.held c.args.output.now) (g.O.Sink.held c.tell.new.output) valid) same h)) c.tell.ensures.said

pub returns-in-Ok-clause-cause : goal.returns-in-Ok-clause-cause
returns-in-Ok-clause-cause g c =
    λ held same named.
    IfErr-weaker c.tell.result _ _ (λ stop h. stops_named c.args.agent held c.args.words c.args.owners.now c.args.task.now c.in-Ok.verdict _ _ stop (c.args.plan, named, c.in-Ok.ensures.verdict)
    (subst (λ (is : Option (List ℕ)). StopsTelling c.args.agent c.in-Ok.verdict c.args.words.horizon is (g.O.Sink.held c.args.output.now) (g.O.Sink.held c.tell.new.output) stop) same h)) c.tell.ensures.cause

pub returns-in-Err-clause-cause : goal.returns-in-Err-clause-cause
returns-in-Err-clause-cause g c = λ held same named. (unjudged held c.args.words c.args.task.now c.args.plan c.in-Err.fault named c.in-Err.ensures.cause, refl)

pub returns-in-Err-clause-opened : goal.returns-in-Err-clause-opened
returns-in-Err-clause-opened g c = sym (c.in-Err.ensures.opened _)
