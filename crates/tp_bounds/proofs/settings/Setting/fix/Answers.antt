use Rattle.std.proofs.Common.{◌<◌, ◌≤◌, sym, subst}
use Rattle.tp_bounds.specs.Setting.{Setting, event_count}
use Rattle.tp_bounds.proofs.LawfulChanges.{lawful_fixed}
use Rattle.tp_bounds.proofs.settings.Setting.fix.Goals as goal

pub invariant_of-self : goal.invariant_of-self
invariant_of-self c =
    lawful_fixed _ c.args.e c.args.moment c.self.invariant
    (subst (λ s. c.args.e < event_count s) (sym c.self.view_is) c.requires.event)
    (subst (λ (s : Setting). c.args.moment ≤ s.horizon) (sym c.self.view_is) c.requires.in_time)
