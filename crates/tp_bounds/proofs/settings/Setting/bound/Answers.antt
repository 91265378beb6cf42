use Rattle.std.proofs.Common.{sym, ap, ◌∙◌}
use Rattle.std.specs.FinMap.{get}
use Rattle.tp_bounds.specs.Setting.{Setting}
use Rattle.tp_bounds.specs.Reasons.{bound_of}
use Rattle.tp_bounds.proofs.HeldMaps.{get_held}
use Rattle.tp_bounds.proofs.settings.Setting.bound.Goals as goal

pub returns-in-Own : goal.returns-in-Own
returns-in-Own c =
    let id = c.in-Own.id.0 in
    (c.copied.ensures
    ∙ (c.get.ensures.value ∙ (sym (get_held c.self.inside.bounds id) ∙ ap (λ (s : Setting). get s.bounds id) c.self.view_is)))
    ∙ sym (ap (bound_of c.args.self.now) c.in-Own.is)
