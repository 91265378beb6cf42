use Rattle.tp_exec_machine.proofs.Keeping.{step_keeps}
use Rattle.tp_exec.proofs.run_plans.steps_keep_the_plan.Goals as goal

pub returns : goal.returns
returns c = λ t steps old new command answer came step. step_keeps _ _ old new command answer came step
