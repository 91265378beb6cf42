use Rattle.std.proofs.Common.{ap, ◌∙◌}
use Rattle.tp_task.specs.Happens.{EventOfStep}
use Rattle.tp_happen.specs.declared.meetings.Meeting.TheVariants.{WrittenAndRead}
use Rattle.tp_happen.specs.Meetings.{done}
use Rattle.tp_happen.proofs.footprints.Footprint.written.Goals as goal

pub returns : goal.returns
returns c = c.deref.ensures.value ∙ (c.self.invariant.written.done ∙ ap (λ (t : EventOfStep). done WrittenAndRead t.event) c.self.view_is)
