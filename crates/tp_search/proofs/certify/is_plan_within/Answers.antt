use Rattle.std.proofs.Common.{◌&&◌, length, le-leb, sym, ap, ◌∙◌}
use Rattle.std.specs.List.{list_all}
use Rattle.tp_search.specs.Plans.{is_step_within}
use Rattle.tp_search.proofs.certify.is_plan_within.Goals as goal

pub returns-then-steps-le-MOST_STEPS : goal.returns-then-steps-le-MOST_STEPS
returns-then-steps-le-MOST_STEPS c = c.all_within.ensures ∙ sym (ap (λ b. b && list_all (is_step_within c.args.task.now c.args.horizon) c.args.steps.now) (le-leb (length c.args.steps.now) 512 c.if-steps-le-MOST_STEPS.true))
