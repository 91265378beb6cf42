use Rattle.std.proofs.Common.{◌≡◌, ◌<◌, sym, subst}
use Rattle.tp_bounds.specs.Setting.{event_count}
use Rattle.tp_repair_engine.specs.Told.{Told}
use Rattle.tp_repair_engine.proofs.Repaired.{repaired_lagged}
use Rattle.tp_repair.proofs.net.RepairNetNet.set_lag.Goals as goal

pub invariant_of-self : goal.invariant_of-self
invariant_of-self c =
    repaired_lagged _ c.args.e c.args.lag _ _ _ _ _ c.self.invariant
    (subst (λ (t : Told). t.setting.clock ≡ 0) (sym c.self.view_is) c.requires.start)
    (subst (λ (t : Told). c.args.e < event_count t.setting) (sym c.self.view_is) c.requires.event)
    c.requires.lag
