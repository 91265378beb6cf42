use Rattle.std.proofs.Common.{sym, ap, ◌∙◌}
use Rattle.std.specs.FinMap.{get}
use Rattle.tp_bounds.proofs.HeldMaps.{get_held}
use Rattle.tp_repair_engine.specs.Told.{Told}
use Rattle.tp_repair.proofs.net.RepairNetNet.bound.Goals as goal

pub returns : goal.returns
returns c =
    c.copied.ensures
    ∙ (c.get.ensures.value
    ∙ (sym (get_held c.self.inside.bounds c.args.id.0) ∙ ap (λ (t : Told). get t.setting.bounds c.args.id.0) c.self.view_is))
