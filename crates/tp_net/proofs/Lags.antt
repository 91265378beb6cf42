-- At 0 a lag changes no edge.
use Rattle.std.proofs.Common.{◌≡◌, ℕ, ◌<◌, ◌≤◌, cond, List, Some, None, refl, sym, ap, ◌∙◌, arith}
use Rattle.tp_bounds.specs.declared.Point.{Point}
use Rattle.tp_bounds.specs.declared.Point.TheVariants.{Origin, Event}
use Rattle.tp_bounds.specs.declared.Edge.{Edge}
use Rattle.tp_bounds.specs.declared.Edge.TheVariants.{Own, New, PastHigh, PastLow, Now, End}
use Rattle.tp_bounds.specs.Setting.{Setting, event_count, floor_of, HasPoint}
use Rattle.tp_bounds.specs.Changes.{with_lag}
use Rattle.tp_bounds.specs.Reasons.{bound_of, at_least, is_open}
use Rattle.tp_bounds.proofs.LawfulChanges.{lag_set}
use Rattle.std.proofs.Math.ListN.{length-set}
use Rattle.tp_net.specs.declared.slacks.Arc.{Arc}
use Rattle.tp_net.specs.Arcs.{name_at, AreArcs}
use Rattle.tp_net.specs.Kept.{IsFit, IsKept}

pub same_edge : (s : Setting) (e lag : ℕ) (f : Edge) → s.clock ≡ 0 → bound_of (with_lag s e lag) f ≡ bound_of s f
same_edge s e lag (Own id) start = refl
same_edge s e lag New start = refl
same_edge s e lag (PastHigh k) start = refl
same_edge s e lag (PastLow k) start = refl
same_edge s e lag (Now k) start =
    let level : floor_of (with_lag s e lag) k ≡ floor_of s k = omega arith in
    ap (λ m. cond (is_open s k) (Some (at_least k m)) None) level
same_edge s e lag (End k) start = refl

same_point : (s : Setting) (e lag : ℕ) (p : Point) → HasPoint s p → HasPoint (with_lag s e lag) p
same_point s e lag Origin h = tt
same_point s e lag (Event k) h = h

listed_lagged : (s : Setting) (e lag : ℕ) (names : List Edge) (arcs : List Arc) → s.clock ≡ 0 → AreArcs s names arcs → AreArcs (with_lag s e lag) names arcs
listed_lagged s e lag names arcs start a =
    record {
      len = a.len;
      exist = λ k within. (let x = a.exist k within in (x.0, same_edge s e lag (name_at names k) start ∙ x.1, x.2));
      all = λ f b is q. a.all f b (sym (same_edge s e lag f start) ∙ is) tt;
    }

pub fit_lagged : (s : Setting) (e lag : ℕ) → IsFit s → e < event_count s → lag ≤ 1_000_000_000 → IsFit (with_lag s e lag)
fit_lagged s e lag h lt few =
    record {
      from = λ id b is. same_point s e lag b.from (h.from id b is);
      to = λ id b is. same_point s e lag b.to (h.to id b is);
      weight = h.weight;
      past = h.past;
      lags = length-set s.lags e lag ∙ h.lags;
      lag = lag_set s.lags e lag 1_000_000_000 (omega (arith, lt, h.lags)) few h.lag;
      events = h.events;
      horizon = h.horizon;
      in_time = h.in_time;
      asks_nothing = h.asks_nothing;
    }

pub kept_lagged : (s : Setting) (e lag : ℕ) (names : List Edge) (arcs : List Arc) (low high : List ℕ)
    → IsKept s names arcs low high → s.clock ≡ 0 → e < event_count s → lag ≤ 1_000_000_000 → IsKept (with_lag s e lag) names arcs low high
kept_lagged s e lag names arcs low high k start lt few =
    record { fit = fit_lagged s e lag k.fit lt few; listed = listed_lagged s e lag names arcs start k.listed; exact = k.exact; points = k.points }
