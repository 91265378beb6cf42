use Rattle.std.proofs.lemmas.Result.{IfErr-weaker, IfOk-weaker}
use Rattle.tp_cli_inputs.proofs.NamedLemmas.{unjudged}
use Rattle.tp_cli_draw.specs.Words.{plan_of}
use Rattle.tp_cli_draw.proofs.DrawLemmas.{verdict_drawn, verdict_stopped}
use Rattle.tp_cli_draw.proofs.run.draw_task.Goals as goal

pub returns-in-Ok-clause-drawn : goal.returns-in-Ok-clause-drawn
returns-in-Ok-clause-drawn c =
    λ held h named.
    IfOk-weaker c.draw_verdict.result _ _ (λ drawn d. verdict_drawn held c.args.words h c.args.task.now c.in-Ok.verdict drawn c.requires.no_log (c.args.plan, named, c.in-Ok.ensures.verdict) d) c.draw_verdict.ensures.drawn

pub returns-in-Ok-clause-cause : goal.returns-in-Ok-clause-cause
returns-in-Ok-clause-cause c =
    λ held h named.
    IfErr-weaker c.draw_verdict.result _ _ (λ stop s. verdict_stopped held c.args.words h c.args.task.now c.in-Ok.verdict stop (c.args.plan, named, c.in-Ok.ensures.verdict) s) c.draw_verdict.ensures.cause

pub returns-in-Err-clause-cause : goal.returns-in-Err-clause-cause
returns-in-Err-clause-cause c =
    λ held h named.
    (h, unjudged held (plan_of c.args.words h) c.args.task.now c.args.plan c.in-Err.fault named c.in-Err.ensures.cause)
