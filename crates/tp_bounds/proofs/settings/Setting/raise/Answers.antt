use Rattle.std.proofs.Common.{◌≤◌, sym, subst}
use Rattle.tp_bounds.specs.Setting.{Setting}
use Rattle.tp_bounds.proofs.LawfulChanges.{lawful_raised}
use Rattle.tp_bounds.proofs.settings.Setting.raise.Goals as goal

pub invariant_of-self : goal.invariant_of-self
invariant_of-self c =
    lawful_raised _ c.args.now c.self.invariant (subst (λ (s : Setting). c.args.now ≤ s.horizon) (sym c.self.view_is) c.requires.in_time)
