use Rattle.std.proofs.Common.{sym, ap, subst}
use Rattle.tp_bounds.specs.Changes.{with_bound}
use Rattle.tp_bounds.specs.Lawful.{Suits}
use Rattle.tp_bounds.proofs.HeldMaps.{held_inserted}
use Rattle.tp_bounds.proofs.LawfulChanges.{lawful_put}
use Rattle.tp_bounds.proofs.settings.Setting.put.Goals as goal

pub invariant_of-self-2 : goal.invariant_of-self-2
invariant_of-self-2 c =
    let new : Suits c.args.self.now c.args.bound = record { from = c.requires.from; to = c.requires.to; weight = c.requires.weight } in
    rw (held_inserted c.self.inside.bounds c.insert.new.self c.args.id.0 c.args.bound c.in_ok-insert.ensures.updates.0)
    (lawful_put _ c.args.id.0 c.args.bound c.self.invariant (subst (λ s. Suits s c.args.bound) (sym c.self.view_is) new))

pub returns-clause-ok : goal.returns-clause-ok
returns-clause-ok c =
    rw (held_inserted c.self.inside.bounds c.insert.new.self c.args.id.0 c.args.bound c.in_ok-insert.ensures.updates.0)
    (ap (λ s. with_bound s c.args.id.0 c.args.bound) c.self.view_is)
