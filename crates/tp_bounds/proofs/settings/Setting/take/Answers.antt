use Rattle.std.proofs.Common.{ap}
use Rattle.tp_bounds.specs.Changes.{without_bound}
use Rattle.tp_bounds.proofs.HeldMaps.{held_removed}
use Rattle.tp_bounds.proofs.LawfulChanges.{lawful_taken}
use Rattle.tp_bounds.proofs.settings.Setting.take.Goals as goal

pub invariant_of-self : goal.invariant_of-self
invariant_of-self c =
    rw (held_removed c.self.inside.bounds c.remove-bound.new.self c.args.id.0 c.remove-bound.ensures.updates.0)
    (lawful_taken _ c.args.id.0 c.self.invariant)

pub returns : goal.returns
returns c =
    rw (held_removed c.self.inside.bounds c.remove-bound.new.self c.args.id.0 c.remove-bound.ensures.updates.0)
    (ap (λ s. without_bound s c.args.id.0) c.self.view_is)
