use Rattle.std.proofs.Common.{◌≡◌, None, replicate, rules}
use Rattle.tp_bounds.proofs.LawfulChanges.{lawful_fresh}
use Rattle.tp_bounds.proofs.settings.Setting.new.Goals as goal

pub invariant_of-result : goal.invariant_of-result
invariant_of-result c =
    let all : c.in_ok-vec.field-0.items ≡ replicate c.args.events None = search rules in
    let none : c.in_ok-vec-2.field-0.items ≡ replicate c.args.events 0 = search rules in
    rw (c.new.ensures.empty, all, none) (lawful_fresh c.args.events c.args.horizon c.requires.events c.requires.horizon)
