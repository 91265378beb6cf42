use Rattle.tp_task.proofs.Retimed.{retimed_run}
use Rattle.tp_task.proofs.Own.{own_bounds}
use Rattle.tp_task.proofs.laws.schedules_are_valid.Goals as goal

pub returns-clause-own : goal.returns-clause-own
returns-clause-own c scale initial goal plan trace t v o = own_bounds scale initial goal plan trace v t o

pub returns-clause-valid : goal.returns-clause-valid
returns-clause-valid c scale initial goal plan trace t v b = (_, retimed_run scale initial goal plan trace v t b)
