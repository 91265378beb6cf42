use Rattle.tp_bounds.proofs.Schedules.{is_schedule, schedule_is}
use Rattle.tp_bounds.proofs.plan_nets.schedules_meet_bounds.Goals as goal

pub returns : goal.returns
returns c events horizon bounds t = (λ s. schedule_is events horizon t bounds s, λ h. is_schedule events horizon t bounds h.0 h.1)
