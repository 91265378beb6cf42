use Rattle.std.proofs.Common.{◌<◌, sym, subst}
use Rattle.tp_bounds.specs.Setting.{event_count}
use Rattle.tp_bounds.proofs.LawfulChanges.{lawful_lagged}
use Rattle.tp_bounds.proofs.settings.Setting.set_lag.Goals as goal

pub invariant_of-self : goal.invariant_of-self
invariant_of-self c =
    lawful_lagged _ c.args.e c.args.lag c.self.invariant
    (subst (λ s. c.args.e < event_count s) (sym c.self.view_is) c.requires.event)
    c.requires.lag
