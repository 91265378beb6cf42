use Rattle.tp_exec_laws.proofs.NetsInForce.{plan_made}
use Rattle.tp_exec_laws.proofs.joined.schedules_make_valid_plans.Goals as goal

pub returns : goal.returns
returns c = λ t steps l n m net there h. plan_made t steps l n _ m c.events-events.ensures.lawful net there h
