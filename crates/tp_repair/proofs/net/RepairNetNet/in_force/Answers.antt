use Rattle.std.proofs.Common.{sym, ap, ◌∙◌}
use Rattle.std.specs.FinMap.{len}
use Rattle.tp_net.proofs.HeldLemmas.{held_len}
use Rattle.tp_repair_engine.specs.Told.{Told}
use Rattle.tp_repair.proofs.net.RepairNetNet.in_force.Goals as goal

pub returns : goal.returns
returns c =
    c.len.ensures.len
    ∙ (sym (held_len c.self.inside.bounds c.len.ensures.ordered) ∙ ap (λ (t : Told). len t.setting.bounds) c.self.view_is)
