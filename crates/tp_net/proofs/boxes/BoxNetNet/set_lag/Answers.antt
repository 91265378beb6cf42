use Rattle.std.proofs.Common.{◌≡◌, ◌<◌, sym, subst}
use Rattle.tp_bounds.specs.Setting.{Setting, event_count}
use Rattle.tp_net.proofs.BoxSound.{sound_lagged}
use Rattle.tp_net.proofs.boxes.BoxNetNet.set_lag.Goals as goal

pub invariant_of-self : goal.invariant_of-self
invariant_of-self c =
    sound_lagged _ c.args.e c.args.lag c.self.invariant
    (subst (λ (s : Setting). s.clock ≡ 0) (sym c.self.view_is) c.requires.start)
    (subst (λ s. c.args.e < event_count s) (sym c.self.view_is) c.requires.event)
    c.requires.lag
