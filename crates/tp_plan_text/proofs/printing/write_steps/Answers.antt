use Rattle.std.proofs.lemmas.Result.{err_from_is_err_and}
use Rattle.tp_device.proofs.Parts.{part_after}
use Rattle.tp_plan_text.specs.PlanPrints.{step_text}
use Rattle.tp_plan_text.specs.TaskWords.{readable}
use Rattle.tp_plan_text.proofs.OnPrints.{flat_split}
use Rattle.tp_plan_text.proofs.printing.write_steps.Goals as goal

pub returns-in_err-write_step-clause-bytes : goal.returns-in_err-write_step-clause-bytes
returns-in_err-write_step-clause-bytes g c =
    let p = err_from_is_err_and c.from_residual.result c.from_residual.ensures.1 in
    let split = flat_split (step_text (readable c.args.task.now)) c.args.steps.now c.loop-step.step-index _ c.loop-step-test.true in
    rw p.1 (part_after _ _ _ _ _ split.0 _ split.1 c.loop-step.invariant.held c.in_err-write_step.ensures.bytes)
