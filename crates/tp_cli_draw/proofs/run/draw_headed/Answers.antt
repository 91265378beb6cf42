use Rattle.std.proofs.Common.{◌∙◌, subst}
use Rattle.tp_cli_inputs.specs.Causes.{Explains}
use Rattle.tp_cli_inputs.specs.Named.{IsNamedPlan}
use Rattle.tp_cli_inputs.specs.declared.plan_words.PlanWords.{PlanWords}
use Rattle.tp_cli_inputs.proofs.NamedLemmas.{explains_over, plan_over}
use Rattle.tp_cli_draw.proofs.run.draw_headed.Goals as goal

pub returns-in-Ok-clause-drawn : goal.returns-in-Ok-clause-drawn
returns-in-Ok-clause-drawn g c =
    λ held same told.
    c.draw_run_of.ensures.drawn held (c.plan_and_names.ensures.same c.args.log.now ∙ same c.args.log.now)
    (subst (λ (p : PlanWords). IsNamedPlan held p c.in-Ok.named.task c.in-Ok.named.plan) c.plan_words.ensures.is
    (plan_over (g.N.Files.held c.args.files.now) held c.plan_words.result c.in-Ok.named.task c.in-Ok.named.plan same c.in-Ok.ensures.named)) told

pub returns-in-Ok-clause-cause : goal.returns-in-Ok-clause-cause
returns-in-Ok-clause-cause g c =
    λ held same told.
    c.draw_run_of.ensures.cause held (c.plan_and_names.ensures.same c.args.log.now ∙ same c.args.log.now)
    (subst (λ (p : PlanWords). IsNamedPlan held p c.in-Ok.named.task c.in-Ok.named.plan) c.plan_words.ensures.is
    (plan_over (g.N.Files.held c.args.files.now) held c.plan_words.result c.in-Ok.named.task c.in-Ok.named.plan same c.in-Ok.ensures.named)) told

pub returns-in-Err-clause-cause : goal.returns-in-Err-clause-cause
returns-in-Err-clause-cause g c =
    λ held same told. (
      c.horizon_or-horizon.result,
      subst (λ (p : PlanWords). Explains held p c.in-Err.fault) c.plan_words.ensures.is
          (explains_over (g.N.Files.held c.args.files.now) held c.plan_words.result c.in-Err.fault same c.in-Err.ensures.cause),
    )
