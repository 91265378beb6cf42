use Rattle.std.proofs.Common.{ap, ap₂, ◌∙◌}
use Rattle.tp_task.specs.Event.{disturbs}
use Rattle.tp_task.specs.Happens.{EventOfStep}
use Rattle.tp_happen.proofs.OnSides.{disturbs_is}
use Rattle.tp_happen.proofs.footprints.Footprint.disturbs.Goals as goal

pub returns : goal.returns
returns c =
    c.disturb.ensures
    ∙ (disturbs_is c.self.inside.event.now c.other.inside.event.now c.self.inside.sides c.other.inside.sides c.self.invariant c.other.invariant
    ∙ ap₂ disturbs (ap (λ (t : EventOfStep). t.event) c.self.view_is) (ap (λ (t : EventOfStep). t.event) c.other.view_is))
