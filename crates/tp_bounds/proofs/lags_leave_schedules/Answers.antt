use Rattle.tp_bounds.proofs.Lags.{schedule_lagged, schedule_unlagged}
use Rattle.tp_bounds.proofs.lags_leave_schedules.Goals as goal

pub returns : goal.returns
returns c = λ s e lag t start. (schedule_lagged s e lag t start, schedule_unlagged s e lag t start)
