use Rattle.std.proofs.Common.{ap, ◌∙◌}
use Rattle.tp_task.specs.Happens.{EventOfStep}
use Rattle.tp_happen.specs.declared.meetings.Meeting.TheVariants.{ChangedAndAsked}
use Rattle.tp_happen.specs.Meetings.{done}
use Rattle.tp_happen.proofs.footprints.Footprint.changed.Goals as goal

pub returns : goal.returns
returns c = c.deref.ensures.value ∙ (c.self.invariant.changed.done ∙ ap (λ (t : EventOfStep). done ChangedAndAsked t.event) c.self.view_is)
