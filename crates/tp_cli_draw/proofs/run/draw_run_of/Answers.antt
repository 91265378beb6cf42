use Rattle.std.proofs.Common.{subst, Option, List, ℕ, sym}
use Rattle.std.proofs.lemmas.Result.{IfErr-weaker, IfOk-weaker}
use Rattle.tp_cli_inputs.proofs.NamedLemmas.{unjudged}
use Rattle.tp_cli_draw.specs.Pictures.{DrawsJudged, HindersJudged}
use Rattle.tp_cli_draw.specs.Words.{plan_of}
use Rattle.tp_cli_draw.proofs.DrawLemmas.{judged_drawn, judged_stopped}
use Rattle.tp_cli_draw.proofs.run.draw_run_of.Goals as goal

pub returns-in-Ok-clause-drawn : goal.returns-in-Ok-clause-drawn
returns-in-Ok-clause-drawn g c =
    λ held same named told.
    IfOk-weaker c.draw_judged.result _ _ (λ drawn d. judged_drawn held c.args.words c.args.horizon c.args.task.now c.args.log.now c.requires.named c.args.head.now told c.in-Ok.verdict drawn (c.args.plan, named, c.in-Ok.ensures.verdict)
    (subst (λ (i : Option (List ℕ)). DrawsJudged c.in-Ok.verdict c.args.horizon c.args.head.now i drawn) same d)) c.draw_judged.ensures.drawn

pub returns-in-Ok-clause-cause : goal.returns-in-Ok-clause-cause
returns-in-Ok-clause-cause g c =
    λ held same named told.
    IfErr-weaker c.draw_judged.result _ _ (λ stop s. judged_stopped held c.args.words c.args.horizon c.args.task.now c.args.log.now c.requires.named c.args.head.now told c.in-Ok.verdict stop (c.args.plan, named, c.in-Ok.ensures.verdict)
    (subst (λ (i : Option (List ℕ)). HindersJudged c.in-Ok.verdict c.args.horizon c.args.head.now i stop) same s)) c.draw_judged.ensures.cause

pub returns-in-Err-clause-cause : goal.returns-in-Err-clause-cause
returns-in-Err-clause-cause g c =
    λ held same named told.
    (c.args.horizon, unjudged held (plan_of c.args.words c.args.horizon) c.args.task.now c.args.plan c.in-Err.fault named c.in-Err.ensures.cause)

pub returns-in-Err-clause-opened : goal.returns-in-Err-clause-opened
returns-in-Err-clause-opened g c = sym (c.in-Err.ensures.opened _)
