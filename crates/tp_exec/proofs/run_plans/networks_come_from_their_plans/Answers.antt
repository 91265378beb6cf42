use Rattle.tp_exec.proofs.FromPlans.{start_came}
use Rattle.tp_exec.proofs.run_plans.networks_come_from_their_plans.Goals as goal

pub returns : goal.returns
returns c = λ t steps l limits n s net fresh events horizon. start_came t steps l limits n s net fresh events horizon
