use Rattle.tp_exec.proofs.FromPlans.{completed_valid}
use Rattle.tp_exec.proofs.run_plans.completed_runs_are_valid_plans.Goals as goal

pub returns : goal.returns
returns c = λ t steps l limits n s commands answers new sound net fresh events horizon run done kept. completed_valid t steps l limits n s net fresh events horizon commands answers new sound run done kept
