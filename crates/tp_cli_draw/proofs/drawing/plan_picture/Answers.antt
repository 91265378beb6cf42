use Rattle.std.proofs.Common.{subst}
use Rattle.tp_bounds.specs.RunLimits.{RunLimits}
use Rattle.tp_deorder.specs.Answers.{OnTooMany, PassesLimits}
use Rattle.tp_cli_draw.proofs.drawing.plan_picture.Goals as goal

pub returns-in-Err-clause-cause : goal.returns-in-Err-clause-cause
returns-in-Err-clause-cause c = (
  c.horizon_or-horizon.result,
  subst (λ (l : RunLimits). OnTooMany c.in-Err.fault (PassesLimits l c.args.plan.now.task c.args.plan.now.steps)) c.greatest.ensures c.in-Err.ensures.err,
)
