use Rattle.tp_deorder.specs.Inequalities.{plan_bounds, event_count_of}
use Rattle.tp_deorder.proofs.Listed.{bounds_listed, listed_bounds}
use Rattle.tp_bounds.proofs.Schedules.{is_schedule, schedule_is}
use Rattle.tp_deorder.proofs.bounds_are_listed.Goals as goal

pub returns : goal.returns
returns c horizon scale trace plan t =
    let n = event_count_of plan in
    let bs = plan_bounds horizon scale trace plan in (
      λ s. let p = schedule_is n horizon t bs s in (p.0, listed_bounds t horizon scale trace plan p.0 p.1),
      λ h. is_schedule n horizon t bs h.0 (bounds_listed t horizon scale trace plan h.0 h.1),
    )
