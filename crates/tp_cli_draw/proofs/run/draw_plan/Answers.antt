use Rattle.std.proofs.Common.{subst}
use Rattle.tp_cli_inputs.specs.Causes.{Explains}
use Rattle.tp_cli_inputs.specs.Named.{IsNamedPlan}
use Rattle.tp_cli_inputs.specs.declared.plan_words.PlanWords.{PlanWords}
use Rattle.tp_cli_draw.proofs.run.draw_plan.Goals as goal

pub returns-in-Ok-clause-drawn : goal.returns-in-Ok-clause-drawn
returns-in-Ok-clause-drawn g c =
    c.draw_task.ensures.drawn (g.N.Files.held c.args.files.now) c.horizon_or-horizon.result
    (subst (λ (p : PlanWords). IsNamedPlan (g.N.Files.held c.args.files.now) p c.in-Ok.named.task c.in-Ok.named.plan) c.plan_words.ensures.is c.in-Ok.ensures.named)

pub returns-in-Ok-clause-cause : goal.returns-in-Ok-clause-cause
returns-in-Ok-clause-cause g c =
    c.draw_task.ensures.cause (g.N.Files.held c.args.files.now) c.horizon_or-horizon.result
    (subst (λ (p : PlanWords). IsNamedPlan (g.N.Files.held c.args.files.now) p c.in-Ok.named.task c.in-Ok.named.plan) c.plan_words.ensures.is c.in-Ok.ensures.named)

pub returns-in-Err-clause-cause : goal.returns-in-Err-clause-cause
returns-in-Err-clause-cause g c = (
  c.horizon_or-horizon.result,
  subst (λ (p : PlanWords). Explains (g.N.Files.held c.args.files.now) p c.in-Err.fault) c.plan_words.ensures.is c.in-Err.ensures.cause,
)
