use Rattle.tp_exec_machine.proofs.Keeping.{run_keeps}
use Rattle.tp_exec.proofs.run_plans.runs_keep_the_plan.Goals as goal

pub returns : goal.returns
returns c = λ t steps old new commands answers came run. run_keeps _ _ commands answers old new came run
