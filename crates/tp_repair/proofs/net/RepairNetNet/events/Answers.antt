use Rattle.std.proofs.Common.{◌≡◌, None, Some, sym, subst, ◌∙◌}
use Rattle.tp_bounds.specs.Setting.{Setting}
use Rattle.tp_bounds.specs.Schedule.{HasSchedule}
use Rattle.tp_bounds.specs.Lawful.{IsLawful}
use Rattle.tp_net.specs.Kept.{IsFit}
use Rattle.tp_net.proofs.KeptMoments.{kept_possible}
use Rattle.tp_repair_engine.specs.Told.{Told}
use Rattle.tp_repair_engine.proofs.Repaired.{kept}
use Rattle.tp_repair.proofs.net.RepairNetNet.events.Goals as goal

pub returns-clause-possible : goal.returns-clause-possible
returns-clause-possible c = subst (λ (t : Told). HasSchedule t.setting) c.self.view_is (kept_possible _ _ _ _ _ (kept _ _ _ _ _ _ c.self.invariant))

fit_lawful : (s : Setting) → IsFit s → IsLawful s
fit_lawful s h =
    record {
      events = h.events;
      horizon = h.horizon;
      in_time = h.in_time;
      past = h.past;
      lags = h.lags;
      lag = h.lag;
      in_force = λ id b is. record { from = h.from id b is; to = h.to id b is; weight = h.weight id b is };
      proposed = λ b is. let f : None ≡ Some b = sym h.asks_nothing ∙ is in let g : ⊥ = cc in absurd g;
    }

pub returns-clause-lawful : goal.returns-clause-lawful
returns-clause-lawful c = subst (λ (t : Told). IsLawful t.setting) c.self.view_is (fit_lawful _ c.self.invariant.fit)
