use Rattle.std.proofs.Common.{IfSome, sym, subst}
use Rattle.tp_bounds.specs.Lawful.{Suits}
use Rattle.tp_bounds.proofs.LawfulChanges.{lawful_asking}
use Rattle.tp_bounds.proofs.settings.Setting.propose.Goals as goal

pub invariant_of-self : goal.invariant_of-self
invariant_of-self c =
    lawful_asking _ c.args.bound c.self.invariant (subst (λ s. IfSome c.args.bound (Suits s)) (sym c.self.view_is) c.requires)
