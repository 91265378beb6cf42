use Rattle.std.proofs.Common.{subst}
use Rattle.std.proofs.lemmas.Result.{IfErr-weaker, IfOk-weaker}
use Rattle.tp_bounds.specs.RunLimits.{RunLimits}
use Rattle.tp_deorder.specs.Answers.{IsPlanNetOf}
use Rattle.tp_cli_draw.proofs.DrawLemmas.{steps_drawn, steps_hindered}
use Rattle.tp_cli_draw.proofs.drawing.draw_log.Goals as goal

pub returns-in-Ok-clause-drawn : goal.returns-in-Ok-clause-drawn
returns-in-Ok-clause-drawn g c =
    IfOk-weaker c.draw_net.result _ _ (λ drawn h. steps_drawn c.args.plan.now.task c.args.plan.now.steps c.args.horizon c.args.head.now _ c.in-Ok.network
    (subst (λ (l : RunLimits). IsPlanNetOf c.args.plan.now.task c.args.plan.now.steps l c.in-Ok.network) c.greatest.ensures c.in-Ok.ensures.net) drawn h) c.draw_net.ensures.drawn

pub returns-in-Ok-clause-cause : goal.returns-in-Ok-clause-cause
returns-in-Ok-clause-cause g c =
    IfErr-weaker c.draw_net.result _ _ (λ stop h. steps_hindered c.args.plan.now.task c.args.plan.now.steps c.args.horizon c.args.head.now _ c.in-Ok.network
    (subst (λ (l : RunLimits). IsPlanNetOf c.args.plan.now.task c.args.plan.now.steps l c.in-Ok.network) c.greatest.ensures c.in-Ok.ensures.net) stop h) c.draw_net.ensures.cause
